use Rattle.std.proofs.Common.{refl, arith}
use Rattle.forest_roots.proofs.RowLaws.{put-more, put-end}
use Rattle.forest_roots.proofs.rows.put_pairs.Goals as goal

pub each-init : goal.each-init
each-init c = record { len = c.requires; put = refl }

pub each-preserved : goal.each-preserved
each-preserved c = put-more _ _ _ _ (omega arith) c.each.invariant

pub returns : goal.returns
returns c = put-end _ _ _ (omega arith) c.each.invariant
