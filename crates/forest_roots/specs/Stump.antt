-- The roots of a forest, by row: what the literature calls a stump.
use Rattle.std.specs.Prelude.{◌≡◌, ℕ, ◌-◌, ◌^◌, ◌<◌, true, false, List, ◌++◌, length, get_or, replicate, slice_set, Option, None}
use Rattle.uo_digest.specs.declared.digest.Digest.{Digest}
use Rattle.forest_place.specs.Forest.{is_slot}
use Rattle.forest_model.specs.Standing.{root}

-- what contracts see of `Roots`: how many entries were ever added, and for each row a root, which is None where it is empty
pub record Stump : Type 0 where
  pub leaves : ℕ
  pub rows : List (Option Digest)

-- the root in a row
abbrev pub root_in : Stump → ℕ → Option Digest
root_in f row = get_or f.rows row None

-- there are 40 rows, and a row that is no slot has no root
pub record IsStump (f : Stump) : Type 0 where
  pub few : f.leaves < 2 ^ 40
  pub forty : length f.rows ≡ 40
  pub bare : (row : ℕ) → is_slot f.leaves row ≡ false → root_in f row ≡ None

-- n entries, of which none is live
abbrev pub empty_roots : ℕ → Stump
empty_roots n = record { leaves = n; rows = replicate 40 None }

-- the first rows, and above them no root
abbrev pub stump_of : ℕ → List (Option Digest) → Stump
stump_of n rows = record { leaves = n; rows = rows ++ replicate (40 - length rows) None }

-- another root in a row
abbrev pub with_root : Stump → ℕ → Option Digest → Stump
with_root f row root = record f { rows = slice_set f.rows row root }

-- the roots are those of these entries
pub record StandsFor (H : List ℕ → Digest) (es : List (Option Digest)) (f : Stump) : Type 0 where
  pub leaves : f.leaves ≡ length es
  pub roots : (row : ℕ) → is_slot f.leaves row ≡ true → root_in f row ≡ root H es row
