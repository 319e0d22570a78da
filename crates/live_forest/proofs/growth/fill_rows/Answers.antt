use Rattle.std.proofs.Common.{◌≡◌, suc, ◌+◌, ◌/◌, ◌^◌, ◌∙◌, ap, subst, arith}
use Rattle.std.specs.Prelude.{nat_le}
use Rattle.forest_place.specs.Forest.{InForest}
use Rattle.forest_place.proofs.Parts.{parts-suc}
use Rattle.forest_place.proofs.Positions.{row_small}
use Rattle.live_forest.proofs.Renewing.{kept_same, kept_more, rows_end}
use Rattle.live_forest.proofs.Growing.{parts_fewer}
use Rattle.live_forest.proofs.growth.fill_rows.Goals as goal

pub rows-init : goal.rows-init
rows-init g c = record {
  small = omega arith;
  below = c.requires.below;
  kept = kept_same c.args.store.now;
  waiting = c.new-waiting.ensures;
  cost = omega arith;
}

pub fill_row-requires-clause-room : goal.fill_row-requires-clause-room
fill_row-requires-clause-room g c = omega (arith, c.requires.room, c.rows.invariant.kept.room.len)

pub fill_row-requires-clause-listed : goal.fill_row-requires-clause-listed
fill_row-requires-clause-listed g c = λ i ge lt. c.rows.invariant.kept.room.listed i ∙ c.requires.listed i ge lt

pub rows-preserved : goal.rows-preserved
rows-preserved g c =
    let n = c.args.n in
    let before = c.args.before in
    let row = c.rows.row in
    let e : suc row ≡ row + 1 = omega arith in
    let within : InForest n (row + 1) 0 = subst (λ x. InForest n x 0) e (omega (arith, c.rows-test.true, c.part_of.ensures)) in
    record {
      small = row_small n (row + 1) 0 40 within c.requires.small;
      below = c.fill_row.ensures.below;
      kept = kept_more g.D.Digester.digest_of (nat_le before) row c.args.store.now c.rows.store c.fill_row.new.store c.rows.invariant.kept
          c.fill_row.ensures.step;
      waiting = c.fill_row.ensures.waiting;
      cost = omega (
        arith,
        c.fill_row.ensures.cost,
        c.rows.invariant.cost,
        parts-suc n row,
        parts-suc before row,
        ap (λ x. n / 2 ^ x) e,
        ap (λ x. before / 2 ^ x) e,
      );
    }

pub returns-clause-right : goal.returns-clause-right
returns-clause-right g c =
    rows_end g.D.Digester.digest_of c.args.n c.rows.row c.rows.store (nat_le c.args.before)
    (omega (arith, c.requires.room, c.rows.invariant.kept.room.len)) (omega (arith, c.rows-test.false, c.part_of.ensures))
    c.rows.invariant.below

pub returns-clause-cost : goal.returns-clause-cost
returns-clause-cost g c = omega (
  arith,
  c.rows.invariant.cost,
  c.rows.invariant.small,
  parts_fewer c.args.before c.args.n c.rows.row c.requires.before,
)
