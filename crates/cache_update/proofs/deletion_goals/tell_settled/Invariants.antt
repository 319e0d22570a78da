use Rattle.std.proofs.Common.{◌≡◌, ◌+◌, ◌≤◌, length, vec_len, vec_capacity}
use Rattle.cache_update.specs.DeletionGoals.{TellGoals}
use Rattle.cache_update.proofs.deletion_goals.tell_settled.Given as goal

abbrev pub invariant-loop-left : goal.invariant-loop-left
invariant-loop-left l = record {
  told : TellGoals l.targets.leaves l.targets.targets l.held l.goals.items;
  each : l.left + vec_len l.goals ≡ length l.held;
  room : length l.held ≤ vec_capacity l.goals;
}

abbrev pub decreases-loop-left : goal.decreases-loop-left
decreases-loop-left l = l.left
