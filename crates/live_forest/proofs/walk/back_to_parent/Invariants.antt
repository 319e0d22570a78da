use Rattle.std.proofs.Common.{◌≤◌}
use Rattle.live_forest.proofs.walk.back_to_parent.Given as goal

abbrev pub invariant-loop-at : goal.invariant-loop-at
invariant-loop-at l = record {
  low : l.low ≤ l.at;
  high : l.at ≤ l.from;
}

abbrev pub decreases-loop-at : goal.decreases-loop-at
decreases-loop-at l = l.at
