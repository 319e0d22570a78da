-- What an addition leaves where it stands.
use Rattle.std.specs.Prelude.{◌≡◌, ℕ, ◌-◌, ◌/◌, ◌^◌, ◌<◌, ◌≤◌, Bool, true, false, nat_lt, List, length, if◌then◌else◌}
use Rattle.forest_place.specs.declared.place.Place.{Place}
use Rattle.forest_roots.specs.declared.joins.Join.{Join}
use Rattle.cache_update.specs.Joins.{is_empty_of}

-- no root is empty that is joined from a row on
abbrev pub AreFull : List Join → ℕ → Type 0
AreFull js top = (row : ℕ) → top ≤ row → row < length js → is_empty_of js row ≡ false

-- the place, or the one above it in that row, is one of the forest, so that no slot below the row has it
abbrev pub stays : ℕ → ℕ → Place → Bool
stays n top p = if nat_lt p.row top then nat_lt (p.off / 2 ^ (top - p.row)) (n / 2 ^ top) else true
