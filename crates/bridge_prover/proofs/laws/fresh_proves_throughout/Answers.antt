use Rattle.bridge_prover.proofs.Throughout.{fresh_proves_throughout}
use Rattle.bridge_prover.proofs.laws.fresh_proves_throughout.Goals as goal

pub returns : goal.returns
returns c = fresh_proves_throughout
