use Rattle.compact_node.proofs.Storing.{one_node_stands}
use Rattle.compact_node.proofs.laws.one_node_stands.Goals as goal

pub returns : goal.returns
returns c = λ H t r s a b rules scripts y z. one_node_stands H t r s a b rules scripts y z
