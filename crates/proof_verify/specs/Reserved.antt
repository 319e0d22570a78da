-- What the scratch keeps.
use Rattle.std.specs.Prelude.{◌≡◌, ℕ, ◌<◌, Bool, true, false, List, [], length, Option, Some}
use Rattle.uo_digest.specs.declared.digest.Digest.{Digest}
use Rattle.forest_place.specs.declared.place.Place.{Place}
use Rattle.forest_place.specs.Forest.{InForest}
use Rattle.forest_place.specs.Places.{place_in}
use Rattle.forest_place.specs.Position.{positions_of}
use Rattle.forest_model.specs.Deletion.{moved}
use Rattle.proof_shape.specs.Survey.{IsCoverOf, has, pos}
use Rattle.proof_shape.specs.Targeted.{IsTargeted}
use Rattle.proof_verify.specs.PlaceSources.{source_at, AreHalves, IsTargetAt, IsTop, top_at}
use Rattle.proof_verify.specs.NewPlaces.{new_place_at}
use Rattle.proof_verify.specs.declared.new_place.NewPlace.{NewPlace}
use Rattle.proof_verify.specs.declared.place_node.PlaceNode.{PlaceNode}
use Rattle.proof_verify.specs.declared.place_source.PlaceSource.{PlaceSource}

-- the covered places, and what each is made of
pub record IsPlan (n : ℕ) (ts cs : List Place) (os : List PlaceSource) : Type 0 where
  pub cover_is : IsCoverOf n ts cs
  pub long : length os ≡ length cs
  pub targets : (m : ℕ) → m < length cs → has ts (place_in cs m) ≡ true → IsTargetAt ts (place_in cs m) (source_at os m)
  pub inner : (m : ℕ) → m < length cs → has ts (place_in cs m) ≡ false → (0 < (place_in cs m).row) × AreHalves n cs (place_in cs m) (source_at os m)

-- the new places of what stays above targets, in ascending order, each with the index of a place that goes there
pub record AreNewPlaces (n : ℕ) (ts cs : List Place) (ls : List NewPlace) : Type 0 where
  pub rises : (a b : ℕ) → a < b → b < length ls → (new_place_at ls a).number < (new_place_at ls b).number
  pub numbered : (a : ℕ) → a < length ls → (new_place_at ls a).number ≡ pos n (new_place_at ls a).place
  pub within : (a : ℕ) → a < length ls → InForest n (new_place_at ls a).place.row (new_place_at ls a).place.off
  pub there : (a : ℕ) → a < length ls → (new_place_at ls a).from < length cs
  pub inner : (a : ℕ) → a < length ls → has ts (place_in cs (new_place_at ls a).from) ≡ false
  pub goes : (a : ℕ) → a < length ls → moved n ts (place_in cs (new_place_at ls a).from).row (place_in cs (new_place_at ls a).from).off
      ≡ Some (new_place_at ls a).place
  pub each : (m : ℕ) (q : Place) → m < length cs → has ts (place_in cs m) ≡ false → moved n ts (place_in cs m).row (place_in cs m).off ≡ Some q
      → (a : ℕ) × (a < length ls) × ((new_place_at ls a).place ≡ q)

-- where all changes are told, these are their places, and none else
abbrev pub AreToldPlaces : Bool → ℕ → List Place → List Place → List NewPlace → Type 0
AreToldPlaces true n ts cs ls = AreNewPlaces n ts cs ls
AreToldPlaces false n ts cs ls = ls ≡ []

-- what the scratch keeps for its targets, by their covered places
pub record IsReserved (tells : Bool) (n : ℕ) (ts : List Place) (os : List PlaceSource) (nodes : List PlaceNode) (tops : List (Option ℕ))
    (ls : List NewPlace)
    (pairs : List (Place × Digest)) : Type 0 where
  pub targeted : IsTargeted (record { leaves = n; targets = ts })
  pub cover : List Place
  pub plan : IsPlan n ts cover os
  pub nodes_long : length nodes ≡ length cover
  pub tops_are : (row : ℕ) → row < 40 → IsTop n (positions_of n cover) row (top_at tops row)
  pub new_places : AreToldPlaces tells n ts cover ls
  pub pairs_long : length pairs ≡ length ls
