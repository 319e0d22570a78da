use Rattle.audit_replay.proofs.Showing.{fresh_shows_forged}
use Rattle.audit_replay.proofs.laws.fresh_shows_forged.Goals as goal

pub returns : goal.returns
returns c = fresh_shows_forged
