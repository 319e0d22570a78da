-- Marks that lie a few to a bucket, and in which bucket a mark is sought.
use Rattle.std.specs.Prelude.{◌≡◌, ◌≢◌, ℕ, suc, ◌%◌, ◌^◌, ◌≤◌, ◌==◌, nat_lt, Bool, List, [], ◌∷◌, length, take, slice_get, Option, Some, None, IfSome}
use Rattle.std.specs.Prelude.{if◌then◌else◌}
use Rattle.std.specs.List.{AllByRecursion}
use Rattle.output_index.specs.declared.bucket_cell.BucketCell.{BucketCell}

-- what the first cell that has the mark tells
abbrev pub in_cells : List BucketCell → ℕ → Option ℕ
in_cells [] m = None
in_cells (cell ∷ cells) m = if cell.mark == m then Some cell.number else in_cells cells m

-- what the first of all cells tells, if it has the mark
abbrev pub first_in : List BucketCell → ℕ → Option ℕ
first_in [] m = None
first_in (cell ∷ cells) m = if cell.mark == m then Some cell.number else None

-- the first cell that has the mark
pub record IsFirstAt (cells : List BucketCell) (m at : ℕ) : Type 0 where
  pub cell : BucketCell
  pub there : slice_get cells at ≡ Some cell
  pub mark : cell.mark ≡ m
  pub tells : in_cells cells m ≡ Some cell.number
  pub before : in_cells (take at cells) m ≡ None

-- the bucket of a mark, where there are so many: by its lowest bits, and by one bit less where there is no such bucket yet
abbrev pub bucket_of : ℕ → ℕ → ℕ → ℕ
bucket_of bits count m = if nat_lt (m % 2 ^ suc bits) count then m % 2 ^ suc bits else m % 2 ^ bits

-- a cell whose mark is sought elsewhere
pub record IsStrange (cells : List BucketCell) (bits count number at : ℕ) : Type 0 where
  pub cell : BucketCell
  pub there : slice_get cells at ≡ Some cell
  pub elsewhere : bucket_of bits count cell.mark ≢ number

-- whether a cell's mark is sought in the bucket of this number
abbrev pub is_own : ℕ → ℕ → ℕ → BucketCell → Bool
is_own bits count number cell = bucket_of bits count cell.mark == number

-- buckets, with the number of bits by which they are told apart
pub record Table : Type 0 where
  pub bits : ℕ
  pub buckets : List (List BucketCell)

abbrev pub in_place : Option (List BucketCell) → ℕ → Option ℕ
in_place None m = None
in_place (Some cells) m = in_cells cells m

-- what the buckets tell of a mark
abbrev pub in_buckets : ℕ → List (List BucketCell) → ℕ → Option ℕ
in_buckets bits buckets m = in_place (slice_get buckets (bucket_of bits (length buckets) m)) m

abbrev pub in_table : Table → ℕ → Option ℕ
in_table table m = in_buckets table.bits table.buckets m

abbrev pub first_in_place : Option (List BucketCell) → ℕ → Option ℕ
first_in_place None m = None
first_in_place (Some cells) m = first_in cells m

-- what the first cell tells of the bucket in which a mark is sought
abbrev pub first_at : Table → ℕ → Option ℕ
first_at table m = first_in_place (slice_get table.buckets (bucket_of table.bits (length table.buckets) m)) m

-- the bucket in which a mark is sought is full, or there is none
abbrev pub HasNoRoom : ℕ → List (List BucketCell) → ℕ → Type 0
HasNoRoom bits buckets m = IfSome (slice_get buckets (bucket_of bits (length buckets) m)) (λ cells. length cells ≡ 6)

-- the bucket of this number has no mark that is sought elsewhere
abbrev pub HasOwn : ℕ → List (List BucketCell) → ℕ → Type 0
HasOwn bits buckets number = IfSome (slice_get buckets number)
    (λ cells. AllByRecursion (λ cell. bucket_of bits (length buckets) cell.mark ≡ number) cells)

-- from as many buckets as the bits tell apart up to twice as many, or none
pub record IsTable (table : Table) : Type 0 where
  pub bits : table.bits ≤ 40
  pub first : table.buckets ≡ [] → table.bits ≡ 0
  pub least : table.buckets ≢ [] → 2 ^ table.bits ≤ length table.buckets
  pub most : length table.buckets ≤ 2 ^ suc table.bits
