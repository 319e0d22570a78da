use Rattle.std.proofs.Common.{suc, ◌/◌, ◌^◌, sym, subst, arith}
use Rattle.forest_place.specs.Forest.{InForest}
use Rattle.forest_place.proofs.Parts.{parts-suc, InForest-down, not_root-down}
use Rattle.forest_place.proofs.Siblings.{sibling_within}
use Rattle.live_forest.proofs.Telling.{page_within}
use Rattle.live_forest.proofs.spots.nearest.Goals as goal

pub has_some-requires-clause-within : goal.has_some-requires-clause-within
has_some-requires-clause-within c =
    let row = c.loop-row.row in
    let off = c.args.number / 2 ^ row in
    let up : InForest 128 (suc row) (off / 2) =
    subst (λ x. InForest 128 (suc row) x) (parts-suc c.args.number row)
    (page_within c.args.number (suc row) c.requires (omega (arith, c.loop-row-test.true))) in
    subst (λ x. InForest 128 row x) (sym c.sibling-beside.ensures.off)
    (sibling_within 128 row off (InForest-down 128 row off up) (not_root-down 128 row off up))
