-- How the places at and above the targets, and those above needed places, tell what is gone.
use Rattle.std.specs.Prelude.{◌≡◌, ℕ, suc, Bool, true, false, not, ◌&&◌, List, is_some}
use Rattle.std.specs.List.Sorted.{IsNonDecreasing, IsStrictlyIncreasing, IsPermutation}
use Rattle.forest_place.specs.declared.place.Place.{Place}
use Rattle.forest_place.specs.Forest.{InForest}
use Rattle.forest_place.specs.Position.{position, positions_of}
use Rattle.forest_model.specs.Cover.{cover, need}
use Rattle.forest_model.specs.Deletion.{is_gone}
use Rattle.proof_shape.specs.Shape.{has_number}
use Rattle.proof_shape.specs.Survey.{pos, IsCoverOf}
use Rattle.proof_shape.specs.Swept.{ArePositions}
use Rattle.proof_shape.specs.Targeted.{IsShaped}

-- the numbers tell which places are covered
abbrev pub CoversTell : ℕ → List Place → List ℕ → Type 0
CoversTell n ts xs = (q : Place) → InForest n q.row q.off → has_number xs (pos n q) ≡ is_some (cover ts q.row q.off)

-- a covered place is gone where no needed place is beneath it
abbrev pub gone_by : ℕ → List ℕ → List ℕ → ℕ → ℕ → Bool
gone_by n covered kept row off = has_number covered (position n row off) && not (has_number kept (position n row off))

abbrev pub GoneTell : ℕ → List Place → List ℕ → List ℕ → Type 0
GoneTell n ts covered kept = (row off : ℕ) → InForest n row off → gone_by n covered kept row off ≡ is_gone ts row off

-- the first list has all numbers of the second
abbrev pub HasAll : List ℕ → List ℕ → Type 0
HasAll xs ys = (x : ℕ) → has_number ys x ≡ true → has_number xs x ≡ true

-- both ascend without repeats, and the first has all numbers of the second
pub record HasPart (xs ys : List ℕ) : Type 0 where
  pub rises : IsStrictlyIncreasing xs
  pub part_rises : IsStrictlyIncreasing ys
  pub there : HasAll xs ys

-- two lists tell it, the second a part of the first, which has nothing but positions of places of the forest
pub record TellGone (n : ℕ) (ts : List Place) (covered kept : List ℕ) : Type 0 where
  pub part : HasPart covered kept
  pub places : ArePositions n covered
  pub tell : GoneTell n ts covered kept

-- two numbers of the list follow each other
abbrev pub HasNeighbours : List ℕ → Type 0
HasNeighbours xs = (x : ℕ) × (has_number xs x ≡ true) × (has_number xs (suc x) ≡ true)

-- no two do
abbrev pub AreApart : List ℕ → Type 0
AreApart xs = (x : ℕ) → has_number xs x ≡ true → has_number xs (suc x) ≡ false

-- targets, the places at and above them, and their own positions in ascending order
pub record ArePaths (n : ℕ) (ts cover : List Place) (sorted : List ℕ) : Type 0 where
  pub shaped : IsShaped (record { leaves = n; targets = ts })
  pub cover_is : IsCoverOf n ts cover
  pub ascending : IsNonDecreasing sorted
  pub same : IsPermutation (positions_of n ts) sorted

-- what is kept beside the targets
pub record IsSurveyed (n : ℕ) (ts needed cover : List Place) (numbers among kept : List ℕ) : Type 0 where
  pub needed_is : needed ≡ need n ts
  pub cover_is : IsCoverOf n ts cover
  pub numbers_are : numbers ≡ positions_of n cover
  pub gone : TellGone n ts among kept
