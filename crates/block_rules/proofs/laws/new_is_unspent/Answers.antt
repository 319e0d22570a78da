use Rattle.block_rules.proofs.Unspent.{unspent}
use Rattle.block_rules.proofs.laws.new_is_unspent.Goals as goal

pub returns : goal.returns
returns c = unspent
