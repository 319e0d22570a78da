-- A page: what is kept for the parts of 128 numbers. A part is among the 2^row numbers from off * 2^row on.
use Rattle.std.specs.Prelude.{◌≡◌, ◌≢◌, ℕ, zero, suc, ◌+◌, ◌-◌, ◌*◌, ◌/◌, ◌%◌, ◌^◌, ◌<◌, ◌≤◌, ◌==◌, ◌⊎◌, Bool, true, false, List, [], length, get_or}
use Rattle.std.specs.Prelude.{Option, Some, None, is_some, if◌then◌else◌}
use Rattle.uo_digest.specs.declared.digest.Digest.{Digest}
use Rattle.forest_place.specs.Forest.{InForest, sibling_off}
use Rattle.forest_place.specs.declared.place.Place.{Place}
use Rattle.live_forest.specs.declared.cell.Cell.{Cell}
use Rattle.live_forest.specs.declared.spots.Spot.{Spot}
use Rattle.live_forest.specs.Sets.{is_bit, has_part, rank}

-- the numbers that have a cell, those of them that are live, and the cells in the order of their numbers
pub record PageState : Type 0 where
  pub listed : ℕ
  pub live : ℕ
  pub cells : List Cell

-- a cell for each listed number, and what is live is listed
pub record IsPage (p : PageState) : Type 0 where
  pub full : length p.cells ≡ rank (is_bit p.listed) 128
  pub within : (i : ℕ) → is_bit p.live i ≡ true → is_bit p.listed i ≡ true

-- a digest and a cell of nothing
abbrev pub no_digest : Digest
no_digest = record { 0 = [] }

abbrev pub no_cell : Cell
no_cell = record { left = no_digest; right = no_digest }

-- where the halves of the part (row + 1, off) meet: the first number of the right one
abbrev pub middle : ℕ → ℕ → ℕ
middle row off = (2 * off + 1) * 2 ^ row

-- both halves of the part (row + 1, off) have a number of the set
pub record IsBranch (is_in : ℕ → Bool) (row off : ℕ) : Type 0 where
  pub left : has_part is_in row (2 * off) ≡ true
  pub right : has_part is_in row (2 * off + 1) ≡ true

-- something, where it is there
abbrev pub when : Bool → Digest → Option Digest
when false d = None
when true d = Some d

-- where the digest of a part lies, so many rows beneath the whole page, of which something is listed: in the cell of the lowest part above it that
-- has listed numbers in both halves, beside that of the other half. That of all numbers lies in the first cell, on the right
unfoldable pub spot_beneath : (ℕ → Bool) → ℕ → ℕ → ℕ → Spot
spot_beneath listed zero row off = record { cell = 0; right = true }
spot_beneath listed (suc rows) row off =
    if has_part listed row (sibling_off off) then record { cell = rank listed (middle row (off / 2)); right = off % 2 == 1 }
    else spot_beneath listed rows (suc row) (off / 2)

abbrev pub spot : (ℕ → Bool) → ℕ → ℕ → Spot
spot listed row off = spot_beneath listed (7 - row) row off

-- the digest that lies there
abbrev pub digest_in : List Cell → Spot → Digest
digest_in cells s = if s.right then (get_or cells s.cell no_cell).right else (get_or cells s.cell no_cell).left

-- the digest that lies where that of a part does
abbrev pub digest_at : ℕ → List Cell → ℕ → ℕ → Digest
digest_at listed cells row off = digest_in cells (spot (is_bit listed) row off)

-- what a page keeps for a part: its digest, where something of it is live
abbrev pub told : PageState → ℕ → ℕ → Option Digest
told p row off = when (has_part (is_bit p.live) row off) (digest_at p.listed p.cells row off)

-- a digest is put at a spot
pub record IsPut (old new : List Cell) (s : Spot) (digest : Digest) : Type 0 where
  pub len : length new ≡ length old
  pub here : digest_in new s ≡ digest
  pub others : (t : Spot) → t ≢ s → digest_in new t ≡ digest_in old t

-- this is kept for a number from now on, and for each part without it what was kept
pub record IsEntryPut (p p' : PageState) (number : ℕ) (entry : Option Digest) : Type 0 where
  pub here : told p' 0 number ≡ entry
  pub others : (r o : ℕ) → number / 2 ^ r ≢ o → told p' r o ≡ told p r o

-- what is kept of two halves is what one of them has, where the other has nothing
pub record IsOfHalves (left right own : Option Digest) : Type 0 where
  pub no_left : left ≡ None → own ≡ right
  pub no_right : right ≡ None → own ≡ left
  pub both : is_some left ≡ true → is_some right ≡ true → is_some own ≡ true

-- this is kept for the part of the row above that has a number from now on, and what was kept for each part that is neither this nor above it
pub record IsPartPut (p p' : PageState) (row number : ℕ) (own : Option Digest) : Type 0 where
  pub here : told p' (suc row) (number / 2 ^ suc row) ≡ own
  pub others : (r o : ℕ) → (suc row ≤ r → number / 2 ^ r ≢ o) → told p' r o ≡ told p r o

-- ---- a cell is taken out

-- the lowest part with the number in which another number of the set is in the other half: the halves are of this row
pub record IsNearest (is_in : ℕ → Bool) (number row : ℕ) : Type 0 where
  pub none : (r : ℕ) → r < row → has_part is_in r (sibling_off (number / 2 ^ r)) ≡ false
  pub some : has_part is_in row (sibling_off (number / 2 ^ row)) ≡ true

-- the other half of that part
pub record IsBeside (is_in : ℕ → Bool) (number : ℕ) (part : Place) : Type 0 where
  pub row : part.row < 7
  pub off : part.off ≡ sibling_off (number / 2 ^ part.row)
  pub nearest : IsNearest is_in number part.row

-- no other number of the set is in any part with the number
abbrev pub IsAlone : (ℕ → Bool) → ℕ → Type 0
IsAlone is_in number = (row : ℕ) → row < 7 → has_part is_in row (sibling_off (number / 2 ^ row)) ≡ false

-- before a number is taken out, the cell that goes with it is made free. Where the number is alone that is the first cell, and nothing moves. Else it
-- is the cell of the part in which the number meets others: without the number, what these others have is all that the part has, so their digest
-- moves to where that of the part lies
abbrev pub IsLifted : ℕ → List Cell → List Cell → ℕ → ℕ → Type 0
IsLifted listed old new number out =
    (IsAlone (is_bit listed) number × (new ≡ old) × (out ≡ 0))
    ⊎ ((part : Place) × IsBeside (is_bit listed) number part
    × IsPut old new (spot (is_bit listed) (suc part.row) (part.off / 2)) (digest_at listed old part.row part.off)
    × (out ≡ rank (is_bit listed) (middle part.row (part.off / 2))))

-- what is kept for the whole parts of n numbers is what their halves have
pub record AreOfHalves (p : PageState) (n : ℕ) : Type 0 where
  pub is : (row off : ℕ) → InForest n (suc row) off → IsOfHalves (told p row (2 * off)) (told p row (2 * off + 1)) (told p (suc row) off)
