use Rattle.std.proofs.Common.{arith}
use Rattle.ticket_check.proofs.TicketLaws.{read_exactly}
use Rattle.ticket_check.proofs.reading.read_ticket.Goals as goal

pub returns-clause-exact : goal.returns-clause-exact
returns-clause-exact c = read_exactly _ _ (λ i. omega (arith, c.type_inv.text i)) c.read_text.ensures.found c.read_text.ensures.none
    c.read_text.ensures.version
