-- The number of a place: rows one after another from the leaves up, each with room for all of its places.
use Rattle.std.specs.Prelude.{ℕ, zero, suc, ◌+◌, ◌-◌, ◌^◌, ◌<◌, if◌then◌else◌, nat_lt, List, map}
use Rattle.forest_place.specs.declared.place.Place.{Place}

-- the least R below k with room for n entries in 2^R, or k
abbrev pub rows_within : ℕ → ℕ → ℕ
rows_within zero n = 0
rows_within (suc k) n = if nat_lt (2 ^ k) n then suc k else rows_within k n

-- the least R with room for n entries in 2^R: the rows above row 0
abbrev pub rows : ℕ → ℕ
rows n = rows_within n n

-- the position at which a row begins, where there are this many rows above row 0
abbrev pub row_start : ℕ → ℕ → ℕ
row_start top row = 2 ^ (top + 1) - 2 ^ (top + 1 - row)

-- the position of a place of the forest over n
abbrev pub position : ℕ → ℕ → ℕ → ℕ
position n row off = row_start (rows n) row + off

-- ---- the same for all counts of entries

-- a place of the forest over 2^40 entries, which has all places of the forests over fewer
abbrev pub IsLow : ℕ → ℕ → Type 0
IsLow row off = (row < 41) × (off < 2 ^ (40 - row))

-- the fixed position of a place: that in the forest over 2^40 entries, which has 40 rows above row 0
abbrev pub fixed_position : ℕ → ℕ → ℕ
fixed_position row off = row_start 40 row + off

-- ---- of a list of places

-- the positions of a list of places
abbrev pub positions_of : ℕ → List Place → List ℕ
positions_of n ps = map (λ p. position n p.row p.off) ps
