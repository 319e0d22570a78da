use Rattle.chain_order.proofs.Branches.{path_is_told}
use Rattle.chain_order.proofs.laws.path_is_told.Goals as goal

pub returns : goal.returns
returns c = path_is_told
