-- The newest entry of each mark.
use Rattle.std.specs.Prelude.{◌≡◌, ℕ, Option, None, IsSome}
use Rattle.std.specs.Option.{option_or}
use Rattle.output_index.specs.Buckets.{Table, in_table}
use Rattle.output_index.specs.Overflow.{MarkMaps, in_maps}

-- marks with the numbers of their newest entries: in buckets, and those for which their bucket has no room in maps
pub record MarkNumbers : Type 0 where
  pub table : Table
  pub overflow : MarkMaps

-- no mark is in both
abbrev pub AreApart : MarkNumbers → Type 0
AreApart marks = (m : ℕ) → IsSome (in_table marks.table m) → in_maps marks.overflow m ≡ None

-- the newest entry with a mark
abbrev pub newest_with : MarkNumbers → ℕ → Option ℕ
newest_with marks m = option_or (in_table marks.table m) (in_maps marks.overflow m)
