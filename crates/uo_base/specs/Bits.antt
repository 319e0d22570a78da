-- Sets of numbers, each by its test: the bits of a number.
use Rattle.std.specs.Prelude.{◌≡◌, ◌≢◌, ℕ, zero, suc, ◌+◌, ◌/◌, ◌%◌, ◌^◌, Bool, true, false, ◌==◌, if◌then◌else◌}

-- the number is in the set that the bits of a number are
abbrev pub is_bit : ℕ → ℕ → Bool
is_bit bits i = bits / 2 ^ i % 2 == 1

-- how many numbers below one the set has
abbrev pub rank : (ℕ → Bool) → ℕ → ℕ
rank is_in zero = 0
rank is_in (suc i) = rank is_in i + (if is_in i then 1 else 0)

-- the set with a number
pub record IsWith (old new : ℕ → Bool) (number : ℕ) : Type 0 where
  pub here : new number ≡ true
  pub others : (i : ℕ) → i ≢ number → new i ≡ old i

-- the set without a number
pub record IsWithout (old new : ℕ → Bool) (number : ℕ) : Type 0 where
  pub here : new number ≡ false
  pub others : (i : ℕ) → i ≢ number → new i ≡ old i
