-- What each covered place is made of, by the list of covered places.
use Rattle.std.specs.Prelude.{◌≡◌, ℕ, ◌+◌, ◌-◌, ◌*◌, ◌<◌, ◌≤◌, true, false, List, length, get_or, filter_map, take, Option, Some, None}
use Rattle.forest_place.specs.declared.place.Place.{Place}
use Rattle.forest_place.specs.Forest.{is_slot, root_off}
use Rattle.forest_place.specs.Position.{position}
use Rattle.forest_place.specs.Places.{place_in, up, child}
use Rattle.proof_shape.specs.Shape.{has_number}
use Rattle.proof_shape.specs.Survey.{is_top, has, needed_of, needed_beside}
use Rattle.proof_verify.specs.declared.place_source.Half.{Half}
use Rattle.proof_verify.specs.declared.place_source.Half.TheVariants.{Covered, Needed}
use Rattle.proof_verify.specs.declared.place_source.PlaceSource.{PlaceSource}
use Rattle.proof_verify.specs.declared.place_source.PlaceSource.TheVariants.{Target, Halves}

abbrev pub source_at : List PlaceSource → ℕ → PlaceSource
source_at os k = get_or os k (Target 0)

abbrev pub number_in : List ℕ → ℕ → ℕ
number_in xs k = get_or xs k 0

-- the half is at this place: among the covered places, or among the needed ones beside them
abbrev pub IsHalf : ℕ → List Place → Place → Half → Type 0
IsHalf n cs p (Covered k) = (k < length cs) × (place_in cs k ≡ p)
IsHalf n cs p (Needed j) = (j < length (needed_of n cs)) × (place_in (needed_of n cs) j ≡ p)

-- a place is made of its two halves
abbrev pub AreHalves : ℕ → List Place → Place → PlaceSource → Type 0
AreHalves n cs p (Target i) = ⊥
AreHalves n cs p (Halves x y) = IsHalf n cs (child 0 p) x × IsHalf n cs (child 1 p) y

-- how many of the needed places are siblings of the first i covered places
abbrev pub rank_of : ℕ → List Place → ℕ → ℕ
rank_of n cs i = length (filter_map (needed_beside n cs) (take i cs))

-- the place above the covered place at index i stands at the index that is its parent's, and is made of its halves
pub record IsLinked (n : ℕ) (cs : List Place) (os : List PlaceSource) (parents : List ℕ) (i : ℕ) : Type 0 where
  pub there : number_in parents i < length cs
  pub above : place_in cs (number_in parents i) ≡ up (place_in cs i)
  pub halves : AreHalves n cs (up (place_in cs i)) (source_at os (number_in parents i))

abbrev pub AreLinked : ℕ → List Place → List PlaceSource → List ℕ → Type 0
AreLinked n cs os parents = (i : ℕ) → i < length cs → is_top n (place_in cs i) ≡ false → IsLinked n cs os parents i

-- the first i covered places are linked
pub record IsLinking (n : ℕ) (cs : List Place) (i above rank : ℕ) (os : List PlaceSource) (parents : List ℕ) : Type 0 where
  pub sources_long : length os ≡ length cs
  pub parents_long : length parents ≡ length cs
  pub rank_is : rank ≡ rank_of n cs i
  pub low : (j w : ℕ) → i ≤ j → j < length cs → is_top n (place_in cs j) ≡ false → w < length cs → place_in cs w ≡ up (place_in cs j) → above ≤ w
  pub linked : (j : ℕ) → j < i → is_top n (place_in cs j) ≡ false → IsLinked n cs os parents j

-- the source is the target at this place
abbrev pub IsTargetAt : List Place → Place → PlaceSource → Type 0
IsTargetAt ts p (Target i) = (i < length ts) × (place_in ts i ≡ p)
IsTargetAt ts p (Halves x y) = ⊥

-- the first t targets are put, and nothing else is changed
pub record ArePut (ts cs : List Place) (t : ℕ) (old new : List PlaceSource) : Type 0 where
  pub long : length new ≡ length old
  pub put : (i m : ℕ) → i < t → m < length cs → place_in cs m ≡ place_in ts i → IsTargetAt ts (place_in cs m) (source_at new m)
  pub rest : (m : ℕ) → m < length cs → has ts (place_in cs m) ≡ false → source_at new m ≡ source_at old m

-- the index of a slot's root among the positions, if it is there
abbrev pub IsTop : ℕ → List ℕ → ℕ → Option ℕ → Type 0
IsTop n xs row None = is_slot n row ≡ true → has_number xs (position n row (root_off n row)) ≡ false
IsTop n xs row (Some k) = (is_slot n row ≡ true) × (k < length xs) × (number_in xs k ≡ position n row (root_off n row))

abbrev pub top_at : List (Option ℕ) → ℕ → Option ℕ
top_at tops row = get_or tops row None

-- the tops of the rows below one
abbrev pub AreTops : ℕ → List ℕ → ℕ → List (Option ℕ) → Type 0
AreTops n xs high tops = (row : ℕ) → row < high → IsTop n xs row (top_at tops row)
