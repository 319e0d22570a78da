use Rattle.std.proofs.Common.{◌≡◌, ℕ, suc, ◌+◌, ◌<◌, ◌-◌, ◌≤◌, get_or, length}
use Rattle.proof_shape.proofs.leaving.have_neighbours.Given as goal

abbrev pub invariant-loop-i : goal.invariant-loop-i
invariant-loop-i l = (1 ≤ l.i) × ((k : ℕ) → k + 1 < l.i → get_or l.sorted (k + 1) 0 ≡ suc (get_or l.sorted k 0) → ⊥)

abbrev pub decreases-loop-i : goal.decreases-loop-i
decreases-loop-i l = length l.sorted - l.i
