-- What a proof comes to at each covered place.
use Rattle.std.specs.Prelude.{◌≡◌, ℕ, ◌<◌, List, map, length, get_or, Some}
use Rattle.uo_digest.specs.declared.digest.Digest.{Digest}
use Rattle.forest_place.specs.declared.place.Place.{Place}
use Rattle.forest_place.specs.Forest.{InForest}
use Rattle.forest_place.specs.Places.{place_in}
use Rattle.forest_model.specs.Cover.{Cover, target, given, both, cover}
use Rattle.forest_model.specs.Evaluation.{evaluation, nothing_known}
use Rattle.proof_shape.specs.Survey.{IsCoverOf}
use Rattle.proof_verify.specs.declared.evaluation.CoveredPlace.{CoveredPlace}
use Rattle.proof_verify.specs.declared.evaluation.Preimage.{Preimage}
use Rattle.proof_verify.specs.declared.evaluation.Preimage.TheVariants as Of

-- what is digested for a cover: a target's leaf text, or what two halves come to
abbrev pub IsPreimage : (List ℕ → Digest) → ℕ → List Place → List Digest → List Digest → Place → Cover → Preimage → Type 0
IsPreimage H n ts leaves hashes p (target row off) (Of.Target i) = (i < length ts) × (place_in ts i ≡ p)
IsPreimage H n ts leaves hashes p (target row off) (Of.Halves x y) = ⊥
IsPreimage H n ts leaves hashes p (given row off) preimage = ⊥
IsPreimage H n ts leaves hashes p (both l r) (Of.Target i) = ⊥
IsPreimage H n ts leaves hashes p (both l r) (Of.Halves x y) = (x ≡ evaluation H n ts nothing_known leaves hashes l)
    × (y ≡ evaluation H n ts nothing_known leaves hashes r)

-- a covered place with what the proof comes to there
pub record IsEvaluatedAt (H : List ℕ → Digest) (n : ℕ) (ts : List Place) (leaves hashes : List Digest) (item : CoveredPlace) : Type 0 where
  pub within : InForest n item.place.row item.place.off
  pub beneath : Cover
  pub covered : cover ts item.place.row item.place.off ≡ Some beneath
  pub digest : item.digest ≡ evaluation H n ts nothing_known leaves hashes beneath
  pub preimage : IsPreimage H n ts leaves hashes item.place beneath item.preimage

-- all covered places, in ascending position
pub record AreEvaluatedAt (H : List ℕ → Digest) (n : ℕ) (ts : List Place) (leaves hashes : List Digest) (items : List CoveredPlace) : Type 0 where
  pub each : (i : ℕ) (d : CoveredPlace) → i < length items → IsEvaluatedAt H n ts leaves hashes (get_or items i d)
  pub all : (row off : ℕ) (c : Cover) → InForest n row off → cover ts row off ≡ Some c → (i : ℕ) × (i < length items)
      × ((d : CoveredPlace) → (get_or items i d).place ≡ record { row = row; off = off })
  pub order : IsCoverOf n ts (map (λ item. item.place) items)
