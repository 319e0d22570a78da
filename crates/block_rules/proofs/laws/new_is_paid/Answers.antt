use Rattle.block_rules.proofs.Supplied.{new_is_paid}
use Rattle.block_rules.proofs.laws.new_is_paid.Goals as goal

pub returns : goal.returns
returns c = new_is_paid
