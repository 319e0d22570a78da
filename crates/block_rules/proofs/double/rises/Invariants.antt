use Rattle.std.proofs.Common.{ℕ, ◌+◌, ◌<◌, ◌-◌, ◌≤◌, get_or, length}
use Rattle.block_rules.proofs.double.rises.Given as goal

abbrev pub invariant-loop-i : goal.invariant-loop-i
invariant-loop-i l = (1 ≤ l.i) × ((k : ℕ) → k + 1 < l.i → get_or l.numbers k 0 < get_or l.numbers (k + 1) 0)

abbrev pub decreases-loop-i : goal.decreases-loop-i
decreases-loop-i l = length l.numbers - l.i
