-- Serials of a chain as they are kept: the newest last.
use Rattle.std.specs.Prelude.{ℕ, ◌<◌, ◌≤◌, ◌^◌, List, length, slice_index}

-- each is above those before it, and none is above n
pub record IsRising (n : ℕ) (serials : List ℕ) : Type 0 where
  pub up : (i j : ℕ) → i < j → j < length serials → slice_index serials i < slice_index serials j
  pub most : (i : ℕ) → i < length serials → slice_index serials i ≤ n

-- what is kept besides what contracts see: the chain rises to the newest serial that was given, and there are not too many followers to count
pub record IsKept (given : ℕ) (chain : List ℕ) (followers : ℕ) : Type 0 where
  pub rises : IsRising given chain
  pub few : followers < 2 ^ 32
