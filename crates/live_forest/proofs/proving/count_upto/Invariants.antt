use Rattle.std.proofs.Common.{◌≡◌, ◌<◌, ◌≤◌, ◌-◌, ◌/◌, ◌^◌, ℕ, true, length, get_or}
use Rattle.std.specs.Prelude.{nat_le}
use Rattle.live_forest.proofs.proving.count_upto.Given as goal

abbrev pub invariant-loop-count : goal.invariant-loop-count
invariant-loop-count l = record {
  within : l.count ≤ length l.numbers;
  upto : (j : ℕ) → j < l.count → nat_le (get_or l.numbers j 0 / 2 ^ l.row) l.off ≡ true;
}

abbrev pub decreases-loop-count : goal.decreases-loop-count
decreases-loop-count l = length l.numbers - l.count
