use Rattle.node_commands.proofs.PlainLemmas.{resumed-valid}
use Rattle.node_commands.proofs.laws.resumed_is_valid.Goals as goal

pub returns : goal.returns
returns c = resumed-valid
