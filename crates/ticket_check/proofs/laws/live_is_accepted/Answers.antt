use Rattle.ticket_check.proofs.Tickets.{live_is_accepted}
use Rattle.ticket_check.proofs.laws.live_is_accepted.Goals as goal

pub returns : goal.returns
returns c = live_is_accepted
