use Rattle.std.proofs.Common.{◌≡◌, suc, ◌+◌, length, ◌∙◌, subst, arith}
use Rattle.std.proofs.lemmas.Nat.{mul-le}
use Rattle.forest_place.specs.Forest.{InForest}
use Rattle.forest_place.specs.Position.{rows}
use Rattle.forest_place.proofs.Positions.{row_small, within_rows}
use Rattle.live_forest.specs.Rows.{is_one}
use Rattle.live_forest.proofs.Renewing.{kept_same, kept_more, rows_end}
use Rattle.live_forest.proofs.emptying.renew_rows.Goals as goal

pub rows-init : goal.rows-init
rows-init g c = record {
  small = omega arith;
  below = c.requires.below;
  kept = kept_same c.args.store.now;
  waiting = c.new-waiting.ensures;
  rows = omega arith;
  cost = omega arith;
}

pub renew_row-requires-clause-room : goal.renew_row-requires-clause-room
renew_row-requires-clause-room g c = omega (arith, c.requires.room, c.rows.invariant.kept.room.len)

pub renew_row-requires-clause-listed : goal.renew_row-requires-clause-listed
renew_row-requires-clause-listed g c = λ k d lt. c.rows.invariant.kept.room.listed _ ∙ c.requires.listed k d lt

pub rows-preserved : goal.rows-preserved
rows-preserved g c =
    let row = c.rows.row in
    let e : suc row ≡ row + 1 = omega arith in
    let within : InForest c.args.n (row + 1) 0 = subst (λ x. InForest c.args.n x 0) e (omega (arith, c.rows-test.true, c.part_of.ensures)) in
    record {
      small = row_small c.args.n (row + 1) 0 40 within c.requires.small;
      below = c.renew_row.ensures.below;
      kept = kept_more g.D.Digester.digest_of (is_one c.args.numbers.now) row c.args.store.now c.rows.store c.renew_row.new.store
          c.rows.invariant.kept c.renew_row.ensures.step;
      waiting = c.renew_row.ensures.waiting;
      rows = (within_rows c.args.n (row + 1) 0 within).0;
      cost = omega (arith, c.renew_row.ensures.cost, c.rows.invariant.cost);
    }

pub returns-clause-right : goal.returns-clause-right
returns-clause-right g c =
    rows_end g.D.Digester.digest_of c.args.n c.rows.row c.rows.store (is_one c.args.numbers.now)
    (omega (arith, c.requires.room, c.rows.invariant.kept.room.len)) (omega (arith, c.rows-test.false, c.part_of.ensures))
    c.rows.invariant.below

pub returns-clause-cost : goal.returns-clause-cost
returns-clause-cost g c =
    let count = length c.args.numbers.now in
    let most = mul-le count c.rows.row count (rows c.args.n) (omega arith) c.rows.invariant.rows in
    omega (arith, c.rows.invariant.cost, most)
