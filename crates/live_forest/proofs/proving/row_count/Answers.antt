use Rattle.std.proofs.Common.{suc, ◌^◌, ◌≤◌, arith, pow-suc}
use Rattle.std.proofs.Math.Pow.{pow_mono}
use Rattle.forest_place.proofs.Positions.{row_small}
use Rattle.forest_place.proofs.Slots.{in_forest_iff}
use Rattle.live_forest.proofs.proving.row_count.Goals as goal

pub returns-then-n-eq0-clause-is : goal.returns-then-n-eq0-clause-is
returns-then-n-eq0-clause-is c = λ row. ((λ lt. absurd (omega (arith, lt))), (λ some. row_small c.args.n row 0 0 some (omega (arith, c.if-n-eq0.true))))

pub returns-else-n-eq0-clause-is : goal.returns-else-n-eq0-clause-is
returns-else-n-eq0-clause-is c = λ row. (
  (λ lt. let power : 2 ^ row ≤ 2 ^ c.ilog2.result = pow_mono (omega (arith, lt)) in
      (in_forest_iff c.args.n row 0).1 (omega (arith, power, c.ilog2.ensures.power_le))),
  (λ some. omega (
    arith,
    row_small c.args.n row 0 (suc c.ilog2.result) some
        (omega (arith, pow-suc 2 c.ilog2.result, c.ilog2.ensures.next_power_gt)),
  )),
)

pub returns-else-n-eq0-clause-few : goal.returns-else-n-eq0-clause-few
returns-else-n-eq0-clause-few c = omega (
  arith,
  row_small c.args.n c.ilog2.result 0 40
      ((in_forest_iff c.args.n c.ilog2.result 0).1 (omega (arith, c.ilog2.ensures.power_le))) c.requires,
)
