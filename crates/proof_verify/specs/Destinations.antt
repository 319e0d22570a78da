-- What is gone and where places go, by what each covered place is made of.
use Rattle.std.specs.Prelude.{◌≡◌, ℕ, ◌<◌, ◌≤◌, ◌%◌, ◌==◌, Bool, true, false, ◌&&◌, List, length, get_or, Option, Some, None, if◌then◌else◌}
use Rattle.forest_place.specs.declared.place.Place.{Place}
use Rattle.forest_place.specs.Forest.{InForest}
use Rattle.forest_place.specs.Places.{place_in}
use Rattle.forest_model.specs.Deletion.{child_place}
use Rattle.proof_shape.specs.Survey.{is_top}
use Rattle.proof_verify.specs.PlaceSources.{source_at, number_in}
use Rattle.proof_verify.specs.declared.place_source.Half.{Half}
use Rattle.proof_verify.specs.declared.place_source.Half.TheVariants.{Covered, Needed}
use Rattle.proof_verify.specs.declared.place_source.PlaceSource.{PlaceSource}
use Rattle.proof_verify.specs.declared.place_source.PlaceSource.TheVariants.{Target, Halves}

abbrev pub mark_at : List Bool → ℕ → Bool
mark_at gone k = get_or gone k false

-- a needed place is never gone
abbrev pub is_half_gone : List Bool → Half → Bool
is_half_gone gone (Covered k) = mark_at gone k
is_half_gone gone (Needed j) = false

abbrev pub is_source_gone : List Bool → PlaceSource → Bool
is_source_gone gone (Target i) = true
is_source_gone gone (Halves x y) = is_half_gone gone x && is_half_gone gone y

-- a half is a place before index m
abbrev pub IsHalfBefore : ℕ → Half → Type 0
IsHalfBefore m (Covered k) = k < m
IsHalfBefore m (Needed j) = Unit {0}

abbrev pub IsBefore : ℕ → PlaceSource → Type 0
IsBefore m (Target i) = Unit {0}
IsBefore m (Halves x y) = IsHalfBefore m x × IsHalfBefore m y

-- each place is made of places before it
abbrev pub AreBefore : List PlaceSource → Type 0
AreBefore os = (m : ℕ) → m < length os → IsBefore m (source_at os m)

-- the marks tell which places are gone, up to index i
pub record AreMarked (os : List PlaceSource) (i : ℕ) (gone : List Bool) : Type 0 where
  pub long : length gone ≡ length os
  pub marks : (m : ℕ) → m < i → mark_at gone m ≡ is_source_gone gone (source_at os m)

-- whether the other half than the one at a side is gone
abbrev pub is_other_half_gone : List Bool → PlaceSource → ℕ → Bool
is_other_half_gone gone (Target i) side = false
is_other_half_gone gone (Halves x y) side = is_half_gone gone (if side == 0 then y else x)

abbrev pub destination_at : List (Option Place) → ℕ → Option Place
destination_at ds k = get_or ds k None

-- where the place at an index goes, by where the one above it goes
abbrev pub destination_from : ℕ → List Place → List PlaceSource → List ℕ → List Bool → List (Option Place) → ℕ → Option Place
destination_from n cs os parents gone ds i =
    let p = place_in cs i in
    let above = number_in parents i in
    if mark_at gone i then None else (if is_top n p then Some p else child_place (is_other_half_gone gone (source_at os above) (p.off % 2))
    (p.off % 2) (destination_at ds above))

-- from index i on it is known where places go
pub record AreDestinations (n : ℕ) (cs : List Place) (os : List PlaceSource) (parents : List ℕ) (gone : List Bool) (i : ℕ)
    (ds : List (Option Place)) : Type
    0 where
  pub long : length ds ≡ length cs
  pub destined : (m : ℕ) → i ≤ m → m < length cs → destination_at ds m ≡ destination_from n cs os parents gone ds m
  pub within : (m : ℕ) → i ≤ m → m < length cs → (q : Place) → destination_at ds m ≡ Some q → InForest n q.row q.off × ((place_in cs m).row ≤ q.row)
