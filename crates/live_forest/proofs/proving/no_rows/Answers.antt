use Rattle.std.proofs.Common.{◌≡◌, ◌<◌, length, sym, subst, arith}
use Rattle.std.specs.Prelude.{◌↔◌}
use Rattle.forest_place.specs.Forest.{InForest}
use Rattle.live_forest.proofs.proving.no_rows.Goals as goal

pub returns-clause-wide : goal.returns-clause-wide
returns-clause-wide c = λ row.
    let all : length c.loop-row.rows.items ≡ c.row_count-count.result =
    omega (arith, c.loop-row.invariant.len, c.loop-row.auto.row-end, c.loop-row-test.false) in
    subst (λ k. (row < k) ↔ InForest c.args.n row 0) (sym all) (c.row_count-count.ensures.is row)
