use Rattle.compact_node.proofs.Following.{fresh_follows_proving}
use Rattle.compact_node.proofs.laws.fresh_follows_proving.Goals as goal

pub returns : goal.returns
returns c = λ H net limits scripts few short watch serves events. fresh_follows_proving H net limits scripts few short watch serves events
