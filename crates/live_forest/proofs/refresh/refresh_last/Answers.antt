use Rattle.std.proofs.Common.{◌≡◌, suc, ◌+◌, ◌*◌, ◌/◌, ◌^◌, refl, sym, ap, ◌∙◌, subst, arith}
use Rattle.std.proofs.lemmas.Bool.{true≢false}
use Rattle.forest_place.specs.Forest.{InForest}
use Rattle.forest_place.proofs.Positions.{row_small}
use Rattle.live_forest.specs.Stores.{stored}
use Rattle.live_forest.specs.Parts.{leaves_of, part_digest, digests_to}
use Rattle.live_forest.proofs.Refreshing.{halves_kept, joined_right, row_written, rows_done, cost_more, leaves_stay, room_kept, room_same}
use Rattle.live_forest.proofs.refresh.refresh_last.Goals as goal

pub rows-init : goal.rows-init
rows-init g c = record {
  small = omega arith;
  within = omega (arith, c.requires.number);
  right = c.requires.right;
  leaves = refl;
  cost = omega arith;
  room = room_same c.args.store.now;
}

pub halves-left-requires-clause-room : goal.halves-left-requires-clause-room
halves-left-requires-clause-room g c = omega (arith, c.requires.room, c.rows.invariant.room.len)

pub halves-left-requires-clause-within : goal.halves-left-requires-clause-within
halves-left-requires-clause-within g c =
    subst (InForest c.args.n (suc c.rows.row)) (sym c.part_of.ensures) (c.goes_up.ensures.0 c.rows-test.true)

pub join-requires-clause-room : goal.join-requires-clause-room
join-requires-clause-room g c = omega (arith, c.requires.room, c.rows.invariant.room.len)

pub join-requires-clause-within : goal.join-requires-clause-within
join-requires-clause-within g c = c.goes_up.ensures.0 c.rows-test.true

pub join-requires-clause-listed : goal.join-requires-clause-listed
join-requires-clause-listed g c = c.rows.invariant.room.listed c.args.number ∙ c.requires.listed

pub join-requires-clause-left : goal.join-requires-clause-left
join-requires-clause-left g c = c.halves-left.ensures.left ∙ ap (λ o. stored c.rows.store c.rows.row (2 * o)) c.part_of.ensures

pub join-requires-clause-right : goal.join-requires-clause-right
join-requires-clause-right g c = c.halves-left.ensures.right ∙ ap (λ o. stored c.rows.store c.rows.row (2 * o + 1)) c.part_of.ensures

pub rows-preserved : goal.rows-preserved
rows-preserved g c =
    let H = g.D.Digester.digest_of in
    let n = c.args.n in
    let row = c.rows.row in
    let i = c.args.number in
    let s = c.rows.store in
    let leaves = leaves_of c.args.store.now in
    let up = c.goes_up.ensures.0 c.rows-test.true in
    let e : suc row ≡ row + 1 = omega arith in
    let off = i / 2 ^ suc row in
    let both = halves_kept H n leaves s i row up c.rows.invariant.right in
    let left : c.halves-left.result.0 ≡ part_digest H leaves row (2 * off) =
    c.halves-left.ensures.left ∙ ap (λ o. stored s row (2 * o)) c.part_of.ensures ∙ both.0 in
    let right : c.halves-left.result.1 ≡ part_digest H leaves row (2 * off + 1) =
    c.halves-left.ensures.right ∙ ap (λ o. stored s row (2 * o + 1)) c.part_of.ensures ∙ both.1 in
    let digest = joined_right H leaves row off c.halves-left.result.0 c.halves-left.result.1 c.join.result left right c.join.ensures.is in
    let cost = cost_more H leaves i row off c.halves-left.result.0 c.halves-left.result.1 c.args.steps.now c.rows.steps c.join.new.steps refl left
    right c.rows.invariant.cost c.join.ensures.cost in
    let within : InForest n (row + 1) (i / 2 ^ (row + 1)) = subst (λ r. InForest n r (i / 2 ^ r)) e up in
    record {
      small = row_small n (row + 1) (i / 2 ^ (row + 1)) 40 within c.requires.small;
      within = within;
      right = row_written H n leaves s i row c.join.new.store c.join.result c.join.ensures.put c.rows.invariant.right digest;
      leaves = leaves_stay s c.join.new.store row i c.join.result c.join.ensures.put c.join.ensures.room.len ∙ c.rows.invariant.leaves;
      room = room_kept c.args.store.now s c.join.new.store c.rows.invariant.room c.join.ensures.room;
      cost = subst (λ x. c.join.new.steps ≡ c.args.steps.now + digests_to leaves i x) e cost;
    }

pub returns-clause-right : goal.returns-clause-right
returns-clause-right g c =
    rows_done g.D.Digester.digest_of c.args.n (leaves_of c.args.store.now) c.rows.store c.args.number c.rows.row
    (λ h. true≢false (sym (c.goes_up.ensures.1 h) ∙ c.rows-test.false)) c.rows.invariant.right

pub returns-clause-cost : goal.returns-clause-cost
returns-clause-cost g c = record {
  top = c.rows.row;
  within = c.rows.invariant.within;
  last = λ h. true≢false (sym (c.goes_up.ensures.1 h) ∙ c.rows-test.false);
  count = c.rows.invariant.cost;
}
