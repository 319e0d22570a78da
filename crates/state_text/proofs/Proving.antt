-- Places as targets.
use Rattle.std.proofs.Common.{◌≡◌, ℕ, List, Result, Ok, Err, sym, ◌∙◌, subst}
use Rattle.std.specs.Prelude.{MatchResult}
use Rattle.forest_place.specs.declared.place.Place.{Place}
use Rattle.forest_place.specs.Places.{AreWithin}
use Rattle.forest_place.specs.Position.{positions_of}
use Rattle.forest_place.proofs.Positions.{same_places}
use Rattle.forest_model.specs.Cover.{HasShape}
use Rattle.proof_shape.specs.Shape.{AreTargets, HasTargets}
use Rattle.proof_shape.specs.Targeted.{Targeted}
use Rattle.state_text.specs.declared.fault.StateFault.{StateFault}
use Rattle.state_text.specs.Reading.{claims}
use Rattle.state_text.proofs.Judged.{denied}

module _ (n : ℕ) (places : List Place) (positions : List ℕ) (within : AreWithin n places) (numbers : positions ≡ positions_of n places) where
  targets_same : (ts : List Place) → AreTargets n positions ts → ts ≡ places
  targets_same ts targets = same_places n ts places (λ r o h. targets.shape.within (record { row = r; off = o }) h) within
      (targets.numbered ∙ numbers)

  -- the targets at the positions of these places are these places
  pub targets_made : (r : Result Targeted StateFault)
      → MatchResult r (λ t. (t.leaves ≡ n) × AreTargets n positions t.targets) (λ e. claims e (HasTargets n positions → ⊥))
      → MatchResult r (λ t. (t.leaves ≡ n) × (t.targets ≡ places) × HasShape n places) (λ e. claims e (HasShape n places → ⊥))
  targets_made (Ok t) m = let same = targets_same t.targets m.1 in (m.0, same, subst (HasShape n) same m.1.shape)
  targets_made (Err e) m = denied e (HasTargets n positions) (HasShape n places) (λ shape. (places, record { numbered = sym numbers; shape = shape }))
      m
