use Rattle.ticket_check.proofs.Tickets.{right_is_live}
use Rattle.ticket_check.proofs.laws.right_is_live.Goals as goal

pub returns : goal.returns
returns c = right_is_live
