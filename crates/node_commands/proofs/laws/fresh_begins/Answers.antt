use Rattle.node_commands.proofs.StopLemmas.{fresh_begins}
use Rattle.node_commands.proofs.laws.fresh_begins.Goals as goal

pub returns : goal.returns
returns c = fresh_begins
