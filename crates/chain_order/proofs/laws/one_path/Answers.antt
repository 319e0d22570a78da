use Rattle.chain_order.proofs.Branches.{one_path}
use Rattle.chain_order.proofs.laws.one_path.Goals as goal

pub returns : goal.returns
returns c = one_path
