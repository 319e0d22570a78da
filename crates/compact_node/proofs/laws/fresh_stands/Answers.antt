use Rattle.compact_node.proofs.Throughout.{fresh-stands}
use Rattle.compact_node.proofs.laws.fresh_stands.Goals as goal

pub returns : goal.returns
returns c = λ H net limits scripts. fresh-stands H net limits scripts
