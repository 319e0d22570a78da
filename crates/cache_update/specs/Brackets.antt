-- Where a number stands among others.
use Rattle.std.specs.Prelude.{ℕ, ◌<◌, ◌≤◌, List, length, get_or}

-- those before the first index are below it, and those from the second on are not
pub record IsBracket (xs : List ℕ) (x low high : ℕ) : Type 0 where
  pub order : low ≤ high
  pub within : high ≤ length xs
  pub below : (k : ℕ) → k < low → get_or xs k 0 < x
  pub above : (k : ℕ) → high ≤ k → k < length xs → x ≤ get_or xs k 0
