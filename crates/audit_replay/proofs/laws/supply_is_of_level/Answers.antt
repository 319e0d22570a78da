use Rattle.audit_replay.proofs.Throughout.{supply_is_of_level}
use Rattle.audit_replay.proofs.laws.supply_is_of_level.Goals as goal

pub returns : goal.returns
returns c = supply_is_of_level
