use Rattle.cache_model.proofs.Proving.{proof_climbed}
use Rattle.cache_model.proofs.proof_is_climbed.Goals as goal

pub returns : goal.returns
returns c = proof_climbed
