use Rattle.std.proofs.Common.{◌≡◌, suc, ◌+◌, ◌/◌, ◌^◌, get_or, None, refl, sym, ap, ◌∙◌, subst, arith}
use Rattle.live_forest.specs.Parts.{leaves_of, ArePartsBut, part_digest, digests_to}
use Rattle.live_forest.proofs.Entries.{path_below}
use Rattle.live_forest.proofs.Refreshing.{halves_right, halves_kept, joined_right, row_written, rows_done, cost_more, leaves_stay}
use Rattle.live_forest.proofs.Refreshing.{room_kept, room_same}
use Rattle.live_forest.proofs.refresh.refresh.Goals as goal

pub loop-row-init : goal.loop-row-init
loop-row-init g c = record {
  upto = omega arith;
  own = c.part-digest.ensures ∙ c.requires.right.is 0 c.args.number (omega (arith, c.requires.number)) (λ low. absurd (omega (arith, low)))
      ∙ ap (part_digest g.D.Digester.digest_of (leaves_of c.args.store.now) 0) (let z : c.args.number ≡ c.args.number / 1 = omega arith in z);
  right = c.requires.right;
  leaves = refl;
  cost = omega arith;
  room = room_same c.args.store.now;
}

pub join-digest-requires-clause-room : goal.join-digest-requires-clause-room
join-digest-requires-clause-room g c = omega (arith, c.requires.room, c.loop-row.invariant.room.len)

pub join-digest-requires-clause-within : goal.join-digest-requires-clause-within
join-digest-requires-clause-within g c =
    path_below c.args.n c.args.number (suc c.loop-row.row) c.gather-rows.result (omega (arith, c.loop-row-test.true))
    c.gather-rows.ensures.beside.within

pub join-digest-requires-clause-listed : goal.join-digest-requires-clause-listed
join-digest-requires-clause-listed g c = c.loop-row.invariant.room.listed c.args.number ∙ c.requires.listed

pub join-digest-requires-clause-left : goal.join-digest-requires-clause-left
join-digest-requires-clause-left g c =
    let H = g.D.Digester.digest_of in
    let row = c.loop-row.row in
    let i = c.args.number in
    let leaves = leaves_of c.args.store.now in
    let within = path_below c.args.n i (suc row) c.gather-rows.result (omega (arith, c.loop-row-test.true)) c.gather-rows.ensures.beside.within in
    let two = halves_right H leaves row i c.loop-row.digest (get_or c.gather-rows.new.siblings row None) c.in_order.result.0.now
    c.in_order.result.1.now c.loop-row.invariant.own (c.gather-rows.ensures.beside.is row c.loop-row-test.true) c.in_order.ensures.even
    c.in_order.ensures.odd in
    two.0 ∙ sym (halves_kept H c.args.n leaves c.loop-row.store i row within c.loop-row.invariant.right).0

pub join-digest-requires-clause-right : goal.join-digest-requires-clause-right
join-digest-requires-clause-right g c =
    let H = g.D.Digester.digest_of in
    let row = c.loop-row.row in
    let i = c.args.number in
    let leaves = leaves_of c.args.store.now in
    let within = path_below c.args.n i (suc row) c.gather-rows.result (omega (arith, c.loop-row-test.true)) c.gather-rows.ensures.beside.within in
    let two = halves_right H leaves row i c.loop-row.digest (get_or c.gather-rows.new.siblings row None) c.in_order.result.0.now
    c.in_order.result.1.now c.loop-row.invariant.own (c.gather-rows.ensures.beside.is row c.loop-row-test.true) c.in_order.ensures.even
    c.in_order.ensures.odd in
    two.1 ∙ sym (halves_kept H c.args.n leaves c.loop-row.store i row within c.loop-row.invariant.right).1

pub loop-row-preserved : goal.loop-row-preserved
loop-row-preserved g c =
    let H = g.D.Digester.digest_of in
    let n = c.args.n in
    let row = c.loop-row.row in
    let i = c.args.number in
    let s = c.loop-row.store in
    let leaves = leaves_of c.args.store.now in
    let off = i / 2 ^ suc row in
    let e : suc row ≡ row + 1 = omega arith in
    let two = halves_right H leaves row i c.loop-row.digest (get_or c.gather-rows.new.siblings row None) c.in_order.result.0.now
    c.in_order.result.1.now c.loop-row.invariant.own (c.gather-rows.ensures.beside.is row c.loop-row-test.true) c.in_order.ensures.even
    c.in_order.ensures.odd in
    let digest = joined_right H leaves row off c.in_order.result.0.now c.in_order.result.1.now c.join-digest.result two.0 two.1
    c.join-digest.ensures.is in
    let cost = cost_more H leaves i row off c.in_order.result.0.now c.in_order.result.1.now c.args.steps.now c.loop-row.steps
    c.join-digest.new.steps refl two.0 two.1 c.loop-row.invariant.cost c.join-digest.ensures.cost in
    record {
      upto = omega (arith, c.loop-row-test.true);
      own = subst (λ r. c.join-digest.result ≡ part_digest H leaves r (i / 2 ^ r)) e digest;
      right = row_written H n leaves s i row c.join-digest.new.store c.join-digest.result c.join-digest.ensures.put c.loop-row.invariant.right digest;
      leaves = leaves_stay s c.join-digest.new.store row i c.join-digest.result c.join-digest.ensures.put c.join-digest.ensures.room.len
          ∙ c.loop-row.invariant.leaves;
      room = room_kept c.args.store.now s c.join-digest.new.store c.loop-row.invariant.room c.join-digest.ensures.room;
      cost = subst (λ x. c.join-digest.new.steps ≡ c.args.steps.now + digests_to leaves i x) e cost;
    }

pub returns-clause-right : goal.returns-clause-right
returns-clause-right g c =
    let all : c.loop-row.row ≡ c.gather-rows.result = omega (arith, c.loop-row.invariant.upto, c.loop-row-test.false) in
    rows_done g.D.Digester.digest_of c.args.n (leaves_of c.args.store.now) c.loop-row.store c.args.number c.gather-rows.result
    c.gather-rows.ensures.beside.last
    (subst (ArePartsBut g.D.Digester.digest_of c.args.n (leaves_of c.args.store.now) c.loop-row.store c.args.number) all c.loop-row.invariant.right)

pub returns-clause-cost : goal.returns-clause-cost
returns-clause-cost g c =
    let all : c.loop-row.row ≡ c.gather-rows.result = omega (arith, c.loop-row.invariant.upto, c.loop-row-test.false) in
    record {
      top = c.gather-rows.result;
      within = c.gather-rows.ensures.beside.within;
      last = c.gather-rows.ensures.beside.last;
      count = c.loop-row.invariant.cost ∙ ap (λ r. c.args.steps.now + digests_to (leaves_of c.args.store.now) c.args.number r) all;
    }
