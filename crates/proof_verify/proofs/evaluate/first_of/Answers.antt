use Rattle.std.proofs.Common.{◌∙◌, arith}
use Rattle.proof_verify.proofs.Batched.{first_taken}
use Rattle.proof_verify.proofs.evaluate.first_of.Goals as goal

pub returns : goal.returns
returns c = let e = c.min.ensures in c.split_at.ensures.front ∙ first_taken c.args.sources.now c.min.result (omega (arith, e))
