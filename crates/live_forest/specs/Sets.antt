-- Sets of numbers, each by its test.
use Rattle.std.specs.Prelude.{ℕ, zero, suc, ◌+◌, ◌*◌, Bool, ◌||◌}
-- the set that the bits of a number are
pub use Rattle.uo_base.specs.Bits.{is_bit, rank, IsWith, IsWithout}

-- the set has one of the 2^row numbers from off * 2^row on
abbrev pub has_part : (ℕ → Bool) → ℕ → ℕ → Bool
has_part is_in zero off = is_in off
has_part is_in (suc row) off = has_part is_in row (2 * off) || has_part is_in row (2 * off + 1)
