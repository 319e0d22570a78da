use Rattle.ticket_check.proofs.CheckLaws.{rechecked_is_right}
use Rattle.ticket_check.proofs.laws.rechecked_is_right.Goals as goal

pub returns : goal.returns
returns c = rechecked_is_right
