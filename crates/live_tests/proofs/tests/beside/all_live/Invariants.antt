use Rattle.std.proofs.Common.{◌≡◌, ℕ, ◌<◌, ◌≤◌, true}
use Rattle.live_forest.specs.State.{is_live}
use Rattle.live_tests.proofs.tests.beside.all_live.Given as goal

abbrev pub invariant-loop-number : goal.invariant-loop-number
invariant-loop-number l = (i : ℕ) → l.n ≤ i → i < l.number → is_live l.forest.entries i ≡ true
