use Rattle.std.proofs.Common.{◌≡◌}
use Rattle.audit_replay.proofs.Supplying.{live_of}
use Rattle.audit_replay.proofs.supply.live.Given as goal

abbrev pub invariant-loop-number : goal.invariant-loop-number
invariant-loop-number g l = l.sum ≡ live_of l.outputs l.number
