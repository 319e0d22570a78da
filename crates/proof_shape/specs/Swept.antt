-- The covered places in ascending order, as a sweep finds them: the targets, and the place above each that is no root.
use Rattle.std.specs.Prelude.{◌≡◌, ℕ, ◌-◌, ◌<◌, ◌≤◌, true, false, ◌⊎◌, List, [], ◌∷◌, ◌++◌, length, get_or}
use Rattle.forest_place.specs.declared.place.Place.{Place}
use Rattle.forest_place.specs.Forest.{InForest}
use Rattle.forest_place.specs.Places.{AreWithin, place_in, up}
use Rattle.proof_shape.specs.Shape.{has_number}
use Rattle.proof_shape.specs.Survey.{pos, is_top, has}

-- the numbers are positions of places of the forest
abbrev pub ArePositions : ℕ → List ℕ → Type 0
ArePositions n xs = (k : ℕ) → k < length xs → (q : Place) × InForest n q.row q.off × (pos n q ≡ get_or xs k 0)

-- p at the end, where another place stood there or none
abbrev pub IsAdded : List Place → Place → List Place → Type 0
IsAdded old p new = (0 < length old → place_in old (length old - 1) ≡ p → ⊥) × (new ≡ old ++ p ∷ [])

-- p at the end, unless it stands there already
abbrev pub IsPushed : List Place → Place → List Place → Type 0
IsPushed old p new = ((0 < length old) × (place_in old (length old - 1) ≡ p) × (new ≡ old)) ⊎ IsAdded old p new

-- the place above the one at index k, at the end
pub record IsClimbed (n : ℕ) (old : List Place) (k : ℕ) (new : List Place) : Type 0 where
  pub top : is_top n (place_in old k) ≡ true → new ≡ old
  pub below : is_top n (place_in old k) ≡ false → IsPushed old (up (place_in old k)) new

-- the place above the one at index k comes next, and no number before it
pub record ClimbsNext (n : ℕ) (cs : List Place) (k : ℕ) (xs : List ℕ) (j : ℕ) : Type 0 where
  pub there : k < length cs
  pub least : is_top n (place_in cs k) ≡ false → j < length xs → pos n (up (place_in cs k)) ≤ get_or xs j 0

-- or else a number does
pub record NumberNext (n : ℕ) (cs : List Place) (k : ℕ) (xs : List ℕ) (j : ℕ) : Type 0 where
  pub least : k < length cs → (is_top n (place_in cs k) ≡ false) × (j < length xs) × (get_or xs j 0 < pos n (up (place_in cs k)))

-- a sweep has the places above the first k places, and the first j numbers
pub record IsSweep (n : ℕ) (xs : List ℕ) (cs : List Place) (k j : ℕ) : Type 0 where
  pub within : AreWithin n cs
  pub rises : (a b : ℕ) → a < b → b < length cs → pos n (place_in cs a) < pos n (place_in cs b)
  pub some : k ≤ length cs
  pub few : j ≤ length xs
  pub sound : (p : Place) → has cs p ≡ true → (has_number xs (pos n p) ≡ true) ⊎ ((c : Place) × (has cs c ≡ true) × (is_top n c ≡ false) × (up c ≡ p))
  pub closed : (m : ℕ) → m < k → is_top n (place_in cs m) ≡ false → has cs (up (place_in cs m)) ≡ true
  pub numbers : (m : ℕ) → m < j → (q : Place) → InForest n q.row q.off → pos n q ≡ get_or xs m 0 → has cs q ≡ true
  pub ups : (m a : ℕ) → k ≤ m → m < length cs → a < length cs → is_top n (place_in cs m) ≡ false → pos n (place_in cs a) ≤ pos n (up (place_in cs m))
  pub tops : (m a : ℕ) → j ≤ m → m < length xs → a < length cs → pos n (place_in cs a) ≤ get_or xs m 0

-- it is done
abbrev pub IsSwept : ℕ → List ℕ → List Place → Type 0
IsSwept n xs cs = IsSweep n xs cs (length cs) (length xs)

-- the first j numbers rise, and none is the position of the place above one of the list
pub record AreFree (n : ℕ) (xs : List ℕ) (cs : List Place) (j : ℕ) : Type 0 where
  pub rising : (a b : ℕ) → a < b → b < j → get_or xs a 0 < get_or xs b 0
  pub clear : (m : ℕ) (c : Place) → m < j → has cs c ≡ true → is_top n c ≡ false → pos n (up c) ≡ get_or xs m 0 → ⊥
