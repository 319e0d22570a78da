use Rattle.ticket_check.proofs.KeptTickets.{kept_tickets_are_right}
use Rattle.ticket_check.proofs.laws.kept_tickets_are_right.Goals as goal

pub returns : goal.returns
returns c = kept_tickets_are_right
