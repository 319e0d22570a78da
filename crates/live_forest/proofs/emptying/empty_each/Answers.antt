use Rattle.std.proofs.Common.{◌<◌, length, take, set, get_or, None, sym, ap, ◌∙◌, arith}
use Rattle.std.proofs.lemmas.List.{take_more}
use Rattle.forest_model.specs.Deletion.{entries_without}
use Rattle.live_forest.specs.Parts.{leaves_of}
use Rattle.live_forest.proofs.Refreshing.{leaves_put, room_kept}
use Rattle.live_forest.proofs.Renewing.{one_at}
use Rattle.live_forest.proofs.Undoing.{entries_without-push}
use Rattle.live_forest.proofs.emptying.empty_each.Goals as goal

pub put_entry-requires-clause-room : goal.put_entry-requires-clause-room
put_entry-requires-clause-room c = omega (
  arith,
  c.requires.given c.loop-number.number-index 0 c.loop-number-test.true,
  c.loop-number.invariant.room.len,
)

pub put_entry-requires-clause-listed : goal.put_entry-requires-clause-listed
put_entry-requires-clause-listed c =
    c.loop-number.invariant.room.listed _ ∙ c.requires.listed c.loop-number.number-index 0 c.loop-number-test.true

pub loop-number-preserved : goal.loop-number-preserved
loop-number-preserved c =
    let xs = c.args.numbers.now in
    let i = c.loop-number.number-index in
    let x = get_or xs i 0 in
    let s = c.loop-number.store in
    let s' = c.put_entry.new.self in
    let first = leaves_of c.args.store.now in
    let lt : i < length xs = c.loop-number-test.true in
    let low : x < s.len = omega (arith, c.requires.given i 0 lt, c.loop-number.invariant.room.len) in
    record {
      leaves = leaves_put s s' x None low c.put_entry.ensures.put c.put_entry.ensures.room.len
          ∙ ap (λ z. set z x None) c.loop-number.invariant.leaves ∙ sym (entries_without-push (take i xs) x first)
          ∙ ap (λ l. entries_without l first) (sym (take_more xs i 0 lt));
      others = λ r o none. c.put_entry.ensures.put.others r o (none x (one_at xs i lt)) ∙ c.loop-number.invariant.others r o none;
      room = room_kept c.args.store.now s s' c.loop-number.invariant.room c.put_entry.ensures.room;
    }
