use Rattle.std.proofs.Common.{◌≡◌, ℕ, ◌<◌, false, get_or, reverse}
use Rattle.relay_core.specs.World.{is_on}
use Rattle.relay_core.proofs.line.met.Given as goal

abbrev pub invariant-loop-k : goal.invariant-loop-k
invariant-loop-k l = (j : ℕ) → j < l.k → is_on (reverse l.chain) (get_or (reverse l.serials) j 0) ≡ false
