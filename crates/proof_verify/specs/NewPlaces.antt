-- The new places of what stays above targets.
use Rattle.std.specs.Prelude.{◌≡◌, ℕ, ◌-◌, ◌<◌, ◌≤◌, List, length, get_or, Option, Some, All, Contains}
use Rattle.forest_place.specs.declared.place.Place.{Place}
use Rattle.proof_shape.specs.Survey.{pos}
use Rattle.proof_verify.specs.PlaceSources.{source_at}
use Rattle.proof_verify.specs.Destinations.{destination_at}
use Rattle.proof_verify.specs.declared.new_place.NewPlace.{NewPlace}
use Rattle.proof_verify.specs.declared.place_source.PlaceSource.{PlaceSource}
use Rattle.proof_verify.specs.declared.place_source.PlaceSource.TheVariants.{Target, Halves}

-- the place is no target
abbrev pub IsInner : PlaceSource → Type 0
IsInner (Target i) = ⊥
IsInner (Halves x y) = Unit {0}

-- the place at an index is no target and goes there
pub record IsNewPlace (n : ℕ) (os : List PlaceSource) (ds : List (Option Place)) (i : ℕ) (l : NewPlace) : Type 0 where
  pub there : l.from < i
  pub inner : IsInner (source_at os l.from)
  pub goes_there : destination_at ds l.from ≡ Some l.place
  pub numbered : l.number ≡ pos n l.place

abbrev pub numbered_place : ℕ → Place → ℕ → NewPlace
numbered_place n q m = record { number = pos n q; place = q; from = m }

-- these are the new places of the first i places, as often as places go there
pub record AreFoundPlaces (n : ℕ) (os : List PlaceSource) (ds : List (Option Place)) (i : ℕ) (ls : List NewPlace) : Type 0 where
  pub sound : All (IsNewPlace n os ds i) ls
  pub complete : (m : ℕ) (q : Place) → m < i → IsInner (source_at os m) → destination_at ds m ≡ Some q → Contains ls (numbered_place n q m)

abbrev pub new_place_at : List NewPlace → ℕ → NewPlace
new_place_at ls k = get_or ls k (record { number = 0; place = record { row = 0; off = 0 }; from = 0 })

-- of the first i new places in order, one for each position
pub record AreFirst (ls : List NewPlace) (i : ℕ) (firsts : List NewPlace) : Type 0 where
  pub short : length firsts ≤ i
  pub among : All (Contains ls) firsts
  pub rises : (a b : ℕ) → a < b → b < length firsts → (new_place_at firsts a).number < (new_place_at firsts b).number
  pub last : 0 < i → (0 < length firsts) × ((new_place_at firsts (length firsts - 1)).number ≡ (new_place_at ls (i - 1)).number)
  pub each : (k : ℕ) → k < i → (a : ℕ) × (a < length firsts) × ((new_place_at firsts a).number ≡ (new_place_at ls k).number)

-- each new place of the places that are no targets, once
pub record AreNew (n : ℕ) (os : List PlaceSource) (ds : List (Option Place)) (firsts : List NewPlace) : Type 0 where
  pub sound : All (IsNewPlace n os ds (length os)) firsts
  pub rises : (a b : ℕ) → a < b → b < length firsts → (new_place_at firsts a).number < (new_place_at firsts b).number
  pub each : (m : ℕ) (q : Place) → m < length os → IsInner (source_at os m) → destination_at ds m ≡ Some q → (a : ℕ) × (a < length firsts)
      × ((new_place_at firsts a).number ≡ pos n q)
