use Rattle.compact_node.proofs.Storing.{standing_is_written}
use Rattle.compact_node.proofs.laws.standing_is_written.Goals as goal

pub returns : goal.returns
returns c = λ H t s is stands. standing_is_written H t s is stands
