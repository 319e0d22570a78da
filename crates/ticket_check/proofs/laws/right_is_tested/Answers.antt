use Rattle.ticket_check.proofs.Tickets.{ticket_right_is_tested}
use Rattle.ticket_check.proofs.laws.right_is_tested.Goals as goal

pub returns : goal.returns
returns c = ticket_right_is_tested
