use Rattle.bridge_prover.proofs.Leaving.{known_is_own}
use Rattle.bridge_prover.proofs.laws.known_is_own.Goals as goal

pub returns : goal.returns
returns c = known_is_own
