use Rattle.audit_replay.proofs.Throughout.{audit_is_full_throughout}
use Rattle.audit_replay.proofs.laws.audit_is_full_throughout.Goals as goal

pub returns : goal.returns
returns c = audit_is_full_throughout
