use Rattle.ticket_check.proofs.CheckLaws.{checked_is_accepted}
use Rattle.ticket_check.proofs.laws.checked_is_accepted.Goals as goal

pub returns : goal.returns
returns c = checked_is_accepted
