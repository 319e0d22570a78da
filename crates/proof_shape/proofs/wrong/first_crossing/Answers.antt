use Rattle.std.proofs.Common.{◌∙◌, sym, below_more}
use Rattle.proof_shape.proofs.wrong.first_crossing.Goals as goal

pub loop-j-preserved : goal.loop-j-preserved
loop-j-preserved c = below_more _ _ c.loop-j.invariant (sym c.crosses.ensures ∙ c.if-crosses.false)
