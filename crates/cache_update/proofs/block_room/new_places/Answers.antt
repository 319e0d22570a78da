use Rattle.std.proofs.Common.{◌≡◌, ℕ, List, MatchOption, Option, sym, ◌∙◌, subst}
use Rattle.forest_model.specs.Cover.{HasShape}
use Rattle.proof_shape.specs.Shape.{AreTargets, HasTargets}
use Rattle.proof_shape.specs.Targeted.{Targeted}
use Rattle.cache_model.specs.Lists.{moved_leaves, leaf_places}
use Rattle.cache_update.proofs.Beginning.{places_are}
use Rattle.cache_update.proofs.Rooted.{moved_shape}
use Rattle.cache_update.proofs.block_room.new_places.Goals as goal

-- what a survey of these positions is, where there is one
abbrev Found : ℕ → List ℕ → Option Targeted → Type 0
Found n positions found = MatchOption found (HasTargets n positions → ⊥) (λ t. (t.leaves ≡ n) × AreTargets n positions t.targets)

pub returns-in-Some-clause-ok : goal.returns-in-Some-clause-ok
returns-in-Some-clause-ok c =
    let found = subst (Found c.leaves.result c.deref.result.now) c.in-Some.is c.in_ok-places.ensures in
    places_are c.args.targets.now.leaves _ c.args.targets.now.targets c.args.kept.now c.in-Some.places _ c.requires.within c.leaves.ensures.is found.0
    found.1 (c.deref.ensures.value ∙ c.in_ok-positions.ensures)

pub returns-clause-err : goal.returns-clause-err
returns-clause-err c =
    let n = c.args.targets.now.leaves in
    let ts = c.args.targets.now.targets in
    let ks = c.args.kept.now in
    λ (shape : HasShape n (leaf_places ks)).
    subst (Found c.leaves.result c.deref.result.now) c.in-None.is c.in_ok-places.ensures
    (subst (λ (k : ℕ). HasTargets k c.deref.result.now) (sym c.leaves.ensures.is) (
      leaf_places (moved_leaves n ts ks),
      record { numbered = sym (c.deref.ensures.value ∙ c.in_ok-positions.ensures); shape = moved_shape n ts ks shape },
    ))
