use Rattle.std.proofs.Common.{◌-◌}
use Rattle.proof_shape.proofs.Climbing.{IsClimbing}
use Rattle.proof_shape.proofs.above.is_beneath_one.Given as goal

abbrev pub invariant-loop-above : goal.invariant-loop-above
invariant-loop-above l = IsClimbing l.n l.sorted l.fn.place l.above

abbrev pub decreases-loop-above : goal.decreases-loop-above
decreases-loop-above l = 40 - l.above.row
