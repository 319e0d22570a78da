-- The forest over n entries. A place is a row and an offset in it.
use Rattle.std.specs.Prelude.{◌≡◌, ℕ, ◌+◌, ◌-◌, ◌/◌, ◌%◌, ◌^◌, ◌<◌, ◌≤◌, Bool, true, ◌&&◌, ◌==◌, if◌then◌else◌}

-- n entries have n / 2^row whole parts of 2^row entries, and the forest has a place for each of them
abbrev pub InForest : ℕ → ℕ → ℕ → Type 0
InForest n row off = off < n / 2 ^ row

-- a slot is a set bit of n: the last part of its row has no sibling
abbrev pub is_slot : ℕ → ℕ → Bool
is_slot n row = n / 2 ^ row % 2 == 1

-- the offset of a slot's root: the last part of its row
abbrev pub root_off : ℕ → ℕ → ℕ
root_off n row = n / 2 ^ row - 1

-- the place is a slot's root: the last part of its row, and a left one
abbrev pub is_root : ℕ → ℕ → ℕ → Bool
is_root n row off = (off % 2 == 0) && (off + 1 == n / 2 ^ row)

-- the slot of row h has the place: its root is the place, or stands above it
pub record IsSlotOf (n row off h : ℕ) : Type 0 where
  pub slot : is_slot n h ≡ true
  pub up : row ≤ h
  pub beneath : off / 2 ^ (h - row) ≡ root_off n h

-- the offset of the sibling, which differs in the lowest bit
abbrev pub sibling_off : ℕ → ℕ
sibling_off off = if off % 2 == 0 then off + 1 else off - 1
