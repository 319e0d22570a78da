-- What is found of the hashes of a level.
use Rattle.std.proofs.Common.{◌≡◌, ℕ, List, length, map, sym, ap, ◌∙◌, subst}
use Rattle.uo_digest.specs.declared.digest.Digest.{Digest}
use Rattle.forest_place.specs.declared.place.Place.{Place}
use Rattle.forest_model.specs.Cover.{HasShape, need}
use Rattle.forest_model.specs.Evaluation.{nothing_known, IsAccepted}
use Rattle.forest_roots.specs.Stump.{Stump, root_in}
use Rattle.proof_verify.specs.Evaluation.{AreEvaluatedAt}
use Rattle.proof_verify.specs.declared.evaluation.CoveredPlace.{CoveredPlace}
use Rattle.proof_verify.proofs.Values.{asked_all}
use Rattle.state_text.specs.Told.{told_at, told_list}
use Rattle.state_text.specs.Merged.{merged, paired, told_pair, StandsIn, AreRightRoots}
use Rattle.std.specs.List.{AllByRecursion}
use Rattle.state_text.proofs.Agreeing.{inside, accepted, roots_right}
use Rattle.state_text.proofs.Holding.{told_are}

module _ (H : List ℕ → Digest) (f : Stump) (n : ℕ) (same : n ≡ f.leaves) (ts : List Place) (leaves hashes : List Digest) where
  abbrev Accepted : Type 0
  Accepted = IsAccepted H f.leaves (root_in f) ts nothing_known leaves hashes

  pub wrong_count : (needed : List Place) → needed ≡ need n ts → (length hashes ≡ length needed → ⊥) → Accepted → ⊥
  wrong_count needed is other a = other (a.one_hash_each
      ∙ (ap length (asked_all f.leaves ts) ∙ (ap (λ m. length (need m ts)) (sym same) ∙ ap length (sym is))))

  module _ (items : List CoveredPlace) (are : AreEvaluatedAt H n ts leaves hashes items) where
    here : AreEvaluatedAt H f.leaves ts leaves hashes items
    here = subst (λ m. AreEvaluatedAt H m ts leaves hashes items) same are

    pub all_inside : AllByRecursion (StandsIn f.leaves) items
    all_inside = inside H f ts leaves hashes items here

    pub wrong_root : (AreRightRoots f items → ⊥) → Accepted → ⊥
    wrong_root wrong a = wrong (roots_right H f ts leaves hashes items here a)

    module _ (needed : List Place) (is : needed ≡ need n ts) (hash_each : length hashes ≡ length needed) where
      hashes_are : length hashes ≡ length (need f.leaves ts)
      hashes_are = hash_each ∙ (ap length is ∙ ap (λ m. length (need m ts)) same)

      pub is_accepted : HasShape n ts → length leaves ≡ length ts → AreRightRoots f items → Accepted
      is_accepted shape leaf_each right = accepted H f ts leaves hashes items here (subst (λ m. HasShape m ts) same shape) leaf_each hashes_are right

      pub is_told : merged (map told_pair items) (paired needed hashes) ≡ told_list f.leaves (told_at H f.leaves ts leaves hashes)
      is_told = ap (λ ps. merged (map told_pair items) (paired ps hashes)) (is ∙ ap (λ m. need m ts) same)
          ∙ told_are H f.leaves ts leaves hashes items here hashes_are
