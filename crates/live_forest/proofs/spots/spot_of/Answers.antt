use Rattle.std.proofs.Common.{◌≡◌, ◌/◌, ◌≤◌, suc, sym, ap, ap₂, ◌∙◌, subst, arith}
use Rattle.std.specs.Prelude.{◌==◌, ◌%◌}
use Rattle.forest_place.specs.Forest.{InForest}
use Rattle.live_forest.specs.Sets.{is_bit, has_part, rank}
use Rattle.live_forest.specs.Pages.{middle, spot}
use Rattle.live_forest.proofs.Landing.{spot_whole, spot_beside, spot_alone}
use Rattle.live_forest.proofs.Telling.{page_up, page_beside, middle_low}
use Rattle.live_forest.proofs.spots.spot_of.Goals as goal

pub has_some-requires-clause-within : goal.has_some-requires-clause-within
has_some-requires-clause-within c =
    subst (InForest 128 c.rows.part.row) (sym c.sibling.ensures.off)
    (page_beside c.rows.part.row c.rows.part.off c.rows-test.true c.rows.invariant.1)

pub middle-requires-clause-within : goal.middle-requires-clause-within
middle-requires-clause-within c =
    middle_low c.rows.part.row c.parent-above.result.off
    (subst (InForest 128 (suc c.rows.part.row)) (sym c.parent-above.ensures.off)
    (page_up c.rows.part.row c.rows.part.off c.rows-test.true c.rows.invariant.1))

pub rank-requires : goal.rank-requires
rank-requires c =
    let low = middle_low c.rows.part.row c.parent-above.result.off
    (subst (InForest 128 (suc c.rows.part.row)) (sym c.parent-above.ensures.off)
    (page_up c.rows.part.row c.rows.part.off c.rows-test.true c.rows.invariant.1)) in
    omega (arith, c.middle.ensures, low)

pub returns-then-has_some : goal.returns-then-has_some
returns-then-has_some c =
    let s = is_bit c.args.listed in
    let row = c.rows.part.row in
    let off = c.rows.part.off in
    let some = ap (has_part s row) (sym c.sibling.ensures.off) ∙ sym c.has_some.ensures ∙ c.if-has_some.true in
    let cell : c.rank.result ≡ rank s (middle row (off / 2)) =
    c.rank.ensures ∙ ap (rank s) (c.middle.ensures ∙ ap (middle row) c.parent-above.ensures.off) in
    ap₂ (λ k o. record { cell = k; right = o == 1 }) cell c.side.ensures.is ∙ sym (spot_beside s row off c.rows-test.true some) ∙ sym c.rows.invariant.2

pub rows-preserved : goal.rows-preserved
rows-preserved c =
    let s = is_bit c.args.listed in
    let row = c.rows.part.row in
    let off = c.rows.part.off in
    let none = ap (has_part s row) (sym c.sibling.ensures.off) ∙ sym c.has_some.ensures ∙ c.if-has_some.false in
    let up : c.parent-above.result.row ≡ suc row = omega (arith, c.parent-above.ensures.row) in (
      omega (arith, up, c.rows-test.true),
      subst (λ k. InForest 128 k c.parent-above.result.off) (sym up)
          (subst (InForest 128 (suc row)) (sym c.parent-above.ensures.off) (page_up row off c.rows-test.true c.rows.invariant.1)),
      c.rows.invariant.2 ∙ spot_alone s row off c.rows-test.true none ∙ ap₂ (spot s) (sym up) (sym c.parent-above.ensures.off),
    )

pub returns : goal.returns
returns c =
    let high : 7 ≤ c.rows.part.row = omega (arith, c.rows-test.false) in
    sym (spot_whole (is_bit c.args.listed) c.rows.part.row c.rows.part.off high) ∙ sym c.rows.invariant.2
