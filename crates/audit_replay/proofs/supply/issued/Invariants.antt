use Rattle.std.proofs.Common.{◌≡◌}
use Rattle.node_rules.specs.Machine.{issued}
use Rattle.audit_replay.proofs.supply.issued.Given as goal

abbrev pub invariant-loop-height : goal.invariant-loop-height
invariant-loop-height g l = l.sum ≡ issued l.net l.height
