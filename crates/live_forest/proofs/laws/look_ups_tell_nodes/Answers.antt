use Rattle.live_forest.proofs.Nodes.{tells_node}
use Rattle.live_forest.proofs.laws.look_ups_tell_nodes.Goals as goal

pub returns : goal.returns
returns c = tells_node
