use Rattle.std.proofs.Common.{◌≡◌, ap, ap₂, ◌∙◌, subst, sym, ◌+◌, suc, ◌/◌, is_some, add-one}
use Rattle.forest_place.specs.Forest.{InForest}
use Rattle.forest_model.specs.Cover.{cover}
use Rattle.proof_shape.specs.Targeted.{Targeted}
use Rattle.cache_update.proofs.Moves.{up_within}
use Rattle.cache_update.proofs.Descending.{free_both, on_free}
use Rattle.cache_update.proofs.staying.covered_above.Goals as goal

pub covered_near-requires : goal.covered_near-requires
covered_near-requires c =
    subst (λ (t : Targeted). InForest t.leaves c.parent.result.row c.parent.result.off) (sym c.survey.ensures)
    (subst (λ r. InForest c.args.targets.now.leaves r c.parent.result.off) (sym c.parent.ensures.row)
    (subst (λ o. InForest c.args.targets.now.leaves (c.args.place.row + 1) o) (sym c.parent.ensures.off)
    (up_within c.args.targets.now.leaves c.args.place.row c.args.place.off c.requires.within c.requires.inner)))

above_covered : (c : goal.After-covered_near)
    → c.covered_near.result.0 ≡ is_some (cover c.args.targets.now.targets (suc c.args.place.row) (c.args.place.off / 2))
above_covered c =
    c.covered_near.ensures
    ∙ (ap (λ (t : Targeted). is_some (cover t.targets c.parent.result.row c.parent.result.off)) c.survey.ensures
    ∙ ap₂ (λ r o. is_some (cover c.args.targets.now.targets r o)) (c.parent.ensures.row ∙ add-one c.args.place.row) c.parent.ensures.off)

pub returns : goal.returns
returns c =
    on_free c.args.targets.now.targets c.args.place.row c.args.place.off c.covered_near.result.0 _ (above_covered c)
    (free_both c.args.targets.now.targets c.args.place)
