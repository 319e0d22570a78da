use Rattle.audit_replay.proofs.Throughout.{fresh_is_full}
use Rattle.audit_replay.proofs.laws.fresh_is_full.Goals as goal

pub returns : goal.returns
returns c = fresh_is_full
