use Rattle.node_commands.proofs.UpgradeLemmas.{states_are_upgraded}
use Rattle.node_commands.proofs.laws.states_are_upgraded.Goals as goal

pub returns : goal.returns
returns c = states_are_upgraded
