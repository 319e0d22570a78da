use Rattle.std.proofs.Common.{◌∙◌, ap, is_some}
use Rattle.forest_model.specs.Cover.{cover}
use Rattle.proof_shape.specs.Targeted.{Targeted}
use Rattle.cache_update.proofs.Descending.{stays_by, stays_uncovered}
use Rattle.cache_update.proofs.staying.stays.Goals as goal

pub returns-then-is_beneath : goal.returns-then-is_beneath
returns-then-is_beneath c = stays_by c.args.targets.now.leaves c.args.targets.now.targets c.leaves.ensures.targets.shape c.needed-2.result.now
    c.leaf_near-needed.result c.args.place _ c.needed-2.ensures c.if-is_beneath.ensures.0 c.if-is_beneath.ensures.1

pub returns : goal.returns
returns c =
    stays_uncovered c.args.targets.now.targets c.args.place.row c.args.place.off c.covered_near-sought.result.0
    (c.covered_near-sought.ensures ∙ ap (λ (t : Targeted). is_some (cover t.targets c.args.place.row c.args.place.off)) c.survey.ensures)
