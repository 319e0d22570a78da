use Rattle.node_commands.proofs.StopLemmas.{resumed_is_whole}
use Rattle.node_commands.proofs.laws.resumed_is_whole.Goals as goal

pub returns : goal.returns
returns c = resumed_is_whole
