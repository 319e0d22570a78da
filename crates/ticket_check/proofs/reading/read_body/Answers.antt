use Rattle.std.proofs.Common.{arith}
use Rattle.ticket_check.proofs.TicketLaws.{body_read}
use Rattle.ticket_check.proofs.reading.read_body.Goals as goal

pub returns : goal.returns
returns c = body_read _ _ (λ i. omega (arith, c.type_inv.body i)) c.read_whole.ensures
