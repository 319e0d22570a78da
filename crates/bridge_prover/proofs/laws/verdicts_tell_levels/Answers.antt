use Rattle.bridge_prover.proofs.Telling.{levels_told}
use Rattle.bridge_prover.proofs.laws.verdicts_tell_levels.Goals as goal

pub returns : goal.returns
returns c = levels_told
