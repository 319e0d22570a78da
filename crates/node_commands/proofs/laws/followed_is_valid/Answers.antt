use Rattle.node_commands.proofs.PlainLemmas.{followed-valid}
use Rattle.node_commands.proofs.laws.followed_is_valid.Goals as goal

pub returns : goal.returns
returns c = followed-valid
