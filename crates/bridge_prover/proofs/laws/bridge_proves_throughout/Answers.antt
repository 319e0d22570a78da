use Rattle.bridge_prover.proofs.Throughout.{bridge_proves_throughout}
use Rattle.bridge_prover.proofs.laws.bridge_proves_throughout.Goals as goal

pub returns : goal.returns
returns c = bridge_proves_throughout
