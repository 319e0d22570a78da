use Rattle.std.proofs.Common.{◌≡◌, ◌+◌, ◌<◌, ◌++◌, ◌∷◌, [], Some, take, map, get_or, refl, sym, ap, ◌∙◌, arith, append_assoc}
use Rattle.std.proofs.lemmas.Bool.{le-leb}
use Rattle.std.proofs.lemmas.List.{append-nil, map_more, take_more_set}
use Rattle.uo_digest.specs.declared.digest.Digest.{Digest}
use Rattle.live_forest.specs.Parts.{leaves_of}
use Rattle.live_forest.proofs.Refreshing.{leaves_put, length-leaves_of, room_kept, room_same}
use Rattle.live_forest.proofs.growth.append_each.Goals as goal

pub loop-i-init : goal.loop-i-init
loop-i-init c =
    let first = leaves_of c.args.store.now in
    let none : c.args.n + 0 ≡ c.args.n = omega arith in
    record {
      leaves = ap (λ k. take k first) none ∙ sym (append-nil (take c.args.n first));
      others = λ r o apart. refl;
      room = room_same c.args.store.now;
    }

pub put_entry-requires-clause-room : goal.put_entry-requires-clause-room
put_entry-requires-clause-room c = omega (arith, c.requires.room, c.loop-i.invariant.room.len, c.loop-i-test.true)

pub put_entry-requires-clause-listed : goal.put_entry-requires-clause-listed
put_entry-requires-clause-listed c =
    c.loop-i.invariant.room.listed (c.args.n + c.loop-i.i)
    ∙ c.requires.listed (c.args.n + c.loop-i.i) (omega arith) (omega (arith, c.loop-i-test.true))

pub loop-i-preserved : goal.loop-i-preserved
loop-i-preserved c =
    let n = c.args.n in
    let i = c.loop-i.i in
    let xs = c.args.added.now in
    let s = c.loop-i.store in
    let s' = c.put_entry.new.self in
    let none : Digest = record { 0 = [] } in
    let x = get_or xs i none in
    let lt : n + i < s.len = omega (arith, c.requires.room, c.loop-i.invariant.room.len, c.loop-i-test.true) in
    let e : n + (i + 1) ≡ n + i + 1 = omega arith in
    record {
      leaves = ap (λ k. take k (leaves_of s')) e
          ∙ ap (take (n + i + 1)) (leaves_put s s' (n + i) (Some x) lt c.put_entry.ensures.put c.put_entry.ensures.room.len)
          ∙ take_more_set (leaves_of s) (n + i) (Some x) (omega (arith, lt, length-leaves_of s))
          ∙ ap (λ l. l ++ Some x ∷ []) c.loop-i.invariant.leaves
          ∙ append_assoc (take n (leaves_of c.args.store.now)) (map Some (take i xs)) (Some x ∷ [])
          ∙ ap (λ z. take n (leaves_of c.args.store.now) ++ z) (sym (map_more Some xs i none c.loop-i-test.true));
      others = λ r o apart.
          c.put_entry.ensures.put.others r o (apart (n + i) (le-leb n (n + i) (omega arith))) ∙ c.loop-i.invariant.others r o apart;
      room = room_kept c.args.store.now s s' c.loop-i.invariant.room c.put_entry.ensures.room;
    }
