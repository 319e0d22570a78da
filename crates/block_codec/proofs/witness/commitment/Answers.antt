use Rattle.std.proofs.Common.{Some, None, sym, ◌∙◌}
use Rattle.block_codec.proofs.WitnessLaws.{taken-more}
use Rattle.block_codec.proofs.witness.commitment.Goals as goal

pub loop-output-preserved-in-Some-commitment_in : goal.loop-output-preserved-in-Some-commitment_in
loop-output-preserved-in-Some-commitment_in c =
    taken-more c.loop-output.yielded c.in-Some.output _ (Some c.in-Some-commitment_in.hash) c.loop-output.invariant
    (sym c.in-Some-commitment_in.is ∙ c.commitment_in.ensures)

pub loop-output-preserved : goal.loop-output-preserved
loop-output-preserved c = taken-more c.loop-output.yielded c.in-Some.output _ None c.loop-output.invariant
    (sym c.in_default.is ∙ c.commitment_in.ensures)
