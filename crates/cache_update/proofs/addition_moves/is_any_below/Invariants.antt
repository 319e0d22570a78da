use Rattle.std.proofs.Common.{◌≡◌, ℕ, ◌-◌, ◌*◌, ◌/◌, ◌^◌, ◌<◌, ◌≤◌, All}
use Rattle.uo_digest.specs.declared.digest.Digest.{Digest}
use Rattle.forest_place.specs.declared.place.Place.{Place}
use Rattle.cache_update.proofs.addition_moves.is_any_below.Given as goal

abbrev pub invariant-loop-row : goal.invariant-loop-row
invariant-loop-row l = record {
  within : l.row ≤ l.top;
  none : (row : ℕ) → row < l.row → All (λ (x : Place × Digest). x.0.row ≡ row → x.0.off < l.n / 2 ^ l.top * 2 ^ (l.top - row)) l.held;
}

abbrev pub decreases-loop-row : goal.decreases-loop-row
decreases-loop-row l = l.top - l.row
