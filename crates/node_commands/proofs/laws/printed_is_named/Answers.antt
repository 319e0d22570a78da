use Rattle.node_commands.proofs.OrderLemmas.{printed-is-named}
use Rattle.node_commands.proofs.laws.printed_is_named.Goals as goal

pub returns : goal.returns
returns c = printed-is-named
