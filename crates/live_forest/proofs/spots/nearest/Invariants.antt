use Rattle.std.proofs.Common.{◌≡◌, ℕ, ◌/◌, ◌^◌, ◌<◌, false}
use Rattle.forest_place.specs.Forest.{sibling_off}
use Rattle.live_forest.specs.Sets.{is_bit, has_part}
use Rattle.live_forest.proofs.spots.nearest.Given as goal

abbrev pub invariant-loop-row : goal.invariant-loop-row
invariant-loop-row l = (r : ℕ) → r < l.row → has_part (is_bit l.listed) r (sibling_off (l.number / 2 ^ r)) ≡ false
