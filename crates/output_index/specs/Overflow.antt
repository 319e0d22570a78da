-- Marks that find no room in their bucket, in many ordered maps.
use Rattle.std.specs.Prelude.{◌≡◌, ◌≢◌, ℕ, ◌/◌, ◌%◌, slice_get, List, [], map, length, Option, Some, None}
use Rattle.std.specs.Map.{lookup}
use Rattle.std.specs.BTreeMap.{BTreeMap, is_at}
use Rattle.std.specs.Ordering.{nat_cmp}

-- the entries of each map: marks with the numbers of their newest entries, in runs of 64, of which the next is in the next map
abbrev pub MarkMaps : Type 0
MarkMaps = List (List (ℕ × ℕ))

abbrev pub maps_in : List (BTreeMap ℕ ℕ) → MarkMaps
maps_in maps = map (λ m. m.entries) maps

-- all of them are there, or none
abbrev pub AreMaps : MarkMaps → Type 0
AreMaps maps = maps ≢ [] → length maps ≡ 16384

abbrev pub map_of : ℕ → ℕ
map_of m = m / 64 % 16384

abbrev pub found_in : Option (List (ℕ × ℕ)) → ℕ → Option ℕ
found_in None m = None
found_in (Some entries) m = lookup (is_at (nat_cmp m)) entries

-- what they tell of a mark
abbrev pub in_maps : MarkMaps → ℕ → Option ℕ
in_maps maps m = found_in (slice_get maps (map_of m)) m

-- none, where the newest is n, and else the newest
abbrev pub TellsOther : ℕ → Option ℕ → Option ℕ → Type 0
TellsOther n newest None = newest ≡ Some n
TellsOther n newest (Some t) = (newest ≡ Some t) × (t ≢ n)
