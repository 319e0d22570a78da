use Rattle.ticket_check.proofs.TicketLaws.{one_ticket}
use Rattle.ticket_check.proofs.writing.one_ticket.Goals as goal

pub returns : goal.returns
returns c = one_ticket
