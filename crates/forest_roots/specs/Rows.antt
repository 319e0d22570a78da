-- Nodes that go up from a row together: neighbours are paired.
use Rattle.std.specs.Prelude.{◌≡◌, ℕ, ◌+◌, ◌-◌, ◌*◌, ◌/◌, Bool, true, false, List, [], ◌∷◌, ◌++◌, length, map, take, drop, is_some}
use Rattle.std.specs.Prelude.{if◌then◌else◌, Option, Some, None}
use Rattle.uo_digest.specs.declared.digest.Digest.{Digest}
use Rattle.uo_digest.specs.Batches.{pair_digest}
use Rattle.forest_model.specs.Addition.{join_root}

-- each node at an even place with its right neighbour, where it has one
unfoldable pub neighbours : List Digest → List (Digest × Digest)
neighbours [] = []
neighbours (x ∷ []) = []
neighbours (x ∷ y ∷ xs) = (x, y) ∷ neighbours xs

-- the last node, where it has no neighbour
unfoldable pub odd_one : List Digest → Option Digest
odd_one [] = None
odd_one (x ∷ []) = Some x
odd_one (x ∷ y ∷ xs) = odd_one xs

-- the digests over pairs
abbrev pub digests_over : (List ℕ → Digest) → List (Digest × Digest) → List Digest
digests_over H pairs = map (pair_digest H) pairs

-- the nodes of the next row, where the first ones are joined with the row's old root if it is a slot
abbrev pub risen : (List ℕ → Digest) → Bool → Option Digest → List Digest → List Digest
risen H false root ds = digests_over H (neighbours ds)
risen H true root [] = []
risen H true root (d ∷ ds) = join_root H root d ∷ digests_over H (neighbours ds)

-- the row's new root
abbrev pub staying : Bool → List Digest → Option Digest
staying false ds = odd_one ds
staying true [] = None
staying true (d ∷ ds) = odd_one ds

-- how many nodes n nodes of a row give in the next one
abbrev pub count_risen : Bool → ℕ → ℕ
count_risen slot n = (n + (if slot then 1 else 0)) / 2

-- the digests that n nodes of a row take: one for each pair, and one where a root is joined that is not empty
abbrev pub row_steps : Bool → Option Digest → ℕ → ℕ
row_steps false root n = n / 2
row_steps true root n = (if is_some root then 1 else 0) + (n - 1) / 2

-- the digests over the first i pairs of a row stand at the front of the list, and what is left of the row behind these pairs
pub record IsLifted (H : List ℕ → Digest) (start now : List Digest) (i : ℕ) : Type 0 where
  pub len : length now ≡ length start
  pub above : digests_over H (neighbours start) ≡ take i now ++ digests_over H (neighbours (drop (2 * i) now))
