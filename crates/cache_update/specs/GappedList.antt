-- A list with a gap.
use Rattle.std.specs.Prelude.{◌≡◌, ℕ, ◌-◌, ◌<◌, ◌≤◌, true, List, ◌++◌, take, drop, length, get_or}
use Rattle.uo_digest.specs.declared.digest.Digest.{Digest}
use Rattle.forest_place.specs.declared.place.Place.{Place}
use Rattle.forest_place.specs.Places.{is_before_place}

-- the gap is some of these cells
pub record IsGap (from to : ℕ) (cells : List (Place × Digest)) : Type 0 where
  pub order : from ≤ to
  pub within : to ≤ length cells

-- the list is what stands before the gap and behind it
abbrev pub around : ℕ → ℕ → List (Place × Digest) → List (Place × Digest)
around from to cells = take from cells ++ drop to cells

-- what is before an index comes before the place
abbrev pub EndsBefore : List (Place × Digest) → ℕ → Place → Type 0
EndsBefore hs i p = 0 < i → (d : Place × Digest) → is_before_place (get_or hs (i - 1) d).0 p ≡ true
