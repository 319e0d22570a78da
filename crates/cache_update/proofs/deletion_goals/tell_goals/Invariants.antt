use Rattle.std.proofs.Common.{◌≡◌, ℕ, ◌+◌, ◌<◌, ◌≤◌, length, get_or, vec_len, vec_capacity}
use Rattle.uo_digest.specs.declared.digest.Digest.{Digest}
use Rattle.forest_place.specs.declared.place.Place.{Place}
use Rattle.forest_place.specs.Places.{up}
use Rattle.cache_update.specs.DeletionGoals.{GoesWith, NoneBefore, TellGoals}
use Rattle.cache_update.proofs.deletion_goals.tell_goals.Given as goal

abbrev pub invariant-loop-left : goal.invariant-loop-left
invariant-loop-left l = record {
  told : TellGoals l.targets.leaves l.targets.targets l.held l.goals.items;
  each : l.left + vec_len l.goals ≡ length l.held;
  room : length l.held ≤ vec_capacity l.goals;
  beside : GoesWith l.targets l.last l.staying;
  near : (i : ℕ) (d : Place × Digest) → i < l.left → NoneBefore l.held l.at (up (get_or l.held i d).0);
}

abbrev pub decreases-loop-left : goal.decreases-loop-left
decreases-loop-left l = l.left
