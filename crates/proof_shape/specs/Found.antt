-- What is found of a list of places.
use Rattle.std.specs.Prelude.{◌≡◌, ◌≢◌, ℕ, ◌+◌, ◌<◌, ◌≤◌, Bool, true, false, ◌||◌, List, take, map, length, get_or, None}
use Rattle.forest_place.specs.declared.place.Place.{Place}
use Rattle.forest_place.specs.Forest.{InForest}
use Rattle.forest_place.specs.Places.{AreWithin, place_in}
use Rattle.forest_place.specs.Position.{position}
use Rattle.forest_place.specs.declared.naming.Naming.{Naming}
use Rattle.forest_place.specs.Named.{number_by, place_by}
use Rattle.forest_model.specs.Cover.{is_above, HasShape}
use Rattle.proof_shape.specs.Shape.{has_number}
use Rattle.proof_shape.specs.declared.fault.ShapeFault.{ShapeFault}
use Rattle.proof_shape.specs.declared.fault.ShapeFault.TheVariants.{Outside, Repeated, Beneath, NoMemory}

-- the number is greater than all of the list
abbrev pub IsPast : List ℕ → ℕ → Type 0
IsPast xs x = (y : ℕ) → has_number xs y ≡ true → y < x

-- a place above p has a position of the list
abbrev pub HasOneAbove : ℕ → List ℕ → Place → Type 0
HasOneAbove n xs p = (q : Place) × InForest n q.row q.off × (is_above q p ≡ true) × (has_number xs (position n q.row q.off) ≡ true)

abbrev pub HasNoneAbove : ℕ → List ℕ → Place → Type 0
HasNoneAbove n xs p = (q : Place) → InForest n q.row q.off → is_above q p ≡ true → has_number xs (position n q.row q.off) ≡ false

-- no place stands in row 40 or above it
abbrev pub AreLow : List Place → Type 0
AreLow ps = (k : ℕ) → k < length ps → (place_in ps k).row < 40

-- the places that have the numbers before the first that names none of the forest
pub record IsFront (by : Naming) (n : ℕ) (numbers : List ℕ) (ps : List Place) : Type 0 where
  pub fits : length ps ≤ length numbers
  pub numbered : map (number_by by n) ps ≡ take (length ps) numbers
  pub within : AreWithin n ps
  pub ends : length ps < length numbers → place_by by n (get_or numbers (length ps) 0) ≡ None

-- k places from the front have shape, and not one more
pub record IsSoundLength (n : ℕ) (ps : List Place) (k : ℕ) : Type 0 where
  pub fits : k ≤ length ps
  pub sound : HasShape n (take k ps)
  pub most : k < length ps → HasShape n (take (k + 1) ps) → ⊥

abbrev pub crosses : Place → Place → Bool
crosses p q = is_above p q || is_above q p

pub record IsFirstEqual (ps : List Place) (i j : ℕ) : Type 0 where
  pub earlier : j < i
  pub same : place_in ps j ≡ place_in ps i
  pub least : (k : ℕ) → k < j → place_in ps k ≢ place_in ps i

pub record IsFirstCrossing (ps : List Place) (i j : ℕ) : Type 0 where
  pub earlier : j < i
  pub crossed : crosses (place_in ps i) (place_in ps j) ≡ true
  pub least : (k : ℕ) → k < j → crosses (place_in ps i) (place_in ps k) ≡ false

-- what is wrong with the place at index i
abbrev pub IsFaultAt : List Place → ℕ → ShapeFault → Type 0
IsFaultAt ps i (Outside k) = ⊥
IsFaultAt ps i (Repeated k j) = (k ≡ i) × IsFirstEqual ps i j
IsFaultAt ps i (Beneath k j) = (k ≡ i) × ((k : ℕ) → k < i → place_in ps k ≢ place_in ps i) × IsFirstCrossing ps i j
IsFaultAt ps i NoMemory = ⊥

-- what is wrong with places that are the first of so many
abbrev pub IsPlaceFault : ℕ → List Place → ℕ → ShapeFault → Type 0
IsPlaceFault n ps count (Outside i) = (i ≡ length ps) × (i < count) × HasShape n ps
IsPlaceFault n ps count (Repeated i j) = (i < length ps) × HasShape n (take i ps) × IsFaultAt ps i (Repeated i j)
IsPlaceFault n ps count (Beneath i j) = (i < length ps) × HasShape n (take i ps) × IsFaultAt ps i (Beneath i j)
IsPlaceFault n ps count NoMemory = Unit {0}
