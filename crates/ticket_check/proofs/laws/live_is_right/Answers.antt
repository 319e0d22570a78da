use Rattle.ticket_check.proofs.CheckLaws.{live_is_right}
use Rattle.ticket_check.proofs.laws.live_is_right.Goals as goal

pub returns : goal.returns
returns c = live_is_right
