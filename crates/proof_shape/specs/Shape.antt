-- Which lists of numbers are those of targets, and where a list goes wrong.
use Rattle.std.specs.Prelude.{◌≡◌, ◌≢◌, ℕ, ◌<◌, Bool, true, false, ◌||◌, ◌==◌, List, take, map, length, get_or, Option, Some, None}
use Rattle.std.specs.List.{list_any}
use Rattle.forest_place.specs.declared.place.Place.{Place}
use Rattle.forest_place.specs.declared.naming.Naming.{Naming}
use Rattle.forest_place.specs.declared.naming.Naming.TheVariants.{Position, FixedPosition}
use Rattle.forest_place.specs.Named.{number_by, place_by}
use Rattle.forest_model.specs.Cover.{is_above, HasShape}
use Rattle.proof_shape.specs.declared.fault.ShapeFault.{ShapeFault}
use Rattle.proof_shape.specs.declared.fault.ShapeFault.TheVariants.{Outside, Repeated, Beneath, NoMemory}

abbrev pub has_number : List ℕ → ℕ → Bool
has_number xs x = list_any (λ y. y == x) xs

-- one of two places stands above the other
abbrev pub is_crossing : Option Place → Option Place → Bool
is_crossing (Some p) (Some q) = is_above p q || is_above q p
is_crossing x y = false

-- ---- by numbers that name places so

-- these are the numbers of targets ts, which have shape
pub record AreTargetsBy (by : Naming) (n : ℕ) (numbers : List ℕ) (ts : List Place) : Type 0 where
  pub numbered : map (number_by by n) ts ≡ numbers
  pub shape : HasShape n ts

-- there are targets of these numbers, which have shape
abbrev pub HasTargetsBy : Naming → ℕ → List ℕ → Type 0
HasTargetsBy by n numbers = (ts : List Place) × AreTargetsBy by n numbers ts

-- the numbers before index i are those of targets
pub record IsSoundBy (by : Naming) (n : ℕ) (numbers : List ℕ) (i : ℕ) : Type 0 where
  pub below : i < length numbers
  pub before : (ts : List Place) × AreTargetsBy by n (take i numbers) ts

-- a list goes wrong at index i, by an earlier index j, and by no lesser one
pub record IsRepeatedBy (by : Naming) (n : ℕ) (numbers : List ℕ) (i j : ℕ) : Type 0 where
  pub first : IsSoundBy by n numbers i
  pub earlier : j < i
  pub same : get_or numbers j 0 ≡ get_or numbers i 0
  pub least : (k : ℕ) → k < j → get_or numbers k 0 ≢ get_or numbers i 0

pub record IsBeneathBy (by : Naming) (n : ℕ) (numbers : List ℕ) (i j : ℕ) : Type 0 where
  pub first : IsSoundBy by n numbers i
  pub earlier : j < i
  pub new : (k : ℕ) → k < i → get_or numbers k 0 ≢ get_or numbers i 0
  pub crosses : is_crossing (place_by by n (get_or numbers i 0)) (place_by by n (get_or numbers j 0)) ≡ true
  pub least : (k : ℕ) → k < j → is_crossing (place_by by n (get_or numbers i 0)) (place_by by n (get_or numbers k 0)) ≡ false

-- the fault is that of the list
abbrev pub IsFaultBy : Naming → ℕ → List ℕ → ShapeFault → Type 0
IsFaultBy by n numbers (Outside i) = IsSoundBy by n numbers i × (place_by by n (get_or numbers i 0) ≡ None)
IsFaultBy by n numbers (Repeated i j) = IsRepeatedBy by n numbers i j
IsFaultBy by n numbers (Beneath i j) = IsBeneathBy by n numbers i j
IsFaultBy by n numbers NoMemory = Unit {0}

-- ---- by position over n

abbrev pub AreTargets : ℕ → List ℕ → List Place → Type 0
AreTargets = AreTargetsBy Position

abbrev pub HasTargets : ℕ → List ℕ → Type 0
HasTargets = HasTargetsBy Position

abbrev pub IsShapeFault : ℕ → List ℕ → ShapeFault → Type 0
IsShapeFault = IsFaultBy Position

-- ---- by fixed position

abbrev pub AreFixedTargets : ℕ → List ℕ → List Place → Type 0
AreFixedTargets = AreTargetsBy FixedPosition

abbrev pub IsFixedFault : ℕ → List ℕ → ShapeFault → Type 0
IsFixedFault = IsFaultBy FixedPosition
