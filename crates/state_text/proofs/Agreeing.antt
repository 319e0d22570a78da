-- What a proof comes to at the slots' roots.
use Rattle.std.proofs.Common.{◌≡◌, ℕ, zero, suc, ◌<◌, true, List, [], ◌∷◌, length, get_or, Option, Some, sym, ap, ap₂, ◌∙◌, arith}
use Rattle.std.specs.List.{AllByRecursion}
use Rattle.std.proofs.lemmas.Option.{same_Some}
use Rattle.uo_digest.specs.declared.digest.Digest.{Digest}
use Rattle.forest_place.specs.declared.place.Place.{Place}
use Rattle.forest_place.specs.Forest.{is_root, is_slot, root_off}
use Rattle.forest_place.proofs.Parts.{is_root-root_off, root_off-is_root, InForest-root}
use Rattle.forest_model.specs.Cover.{Cover, cover, need, HasShape}
use Rattle.forest_model.specs.Evaluation.{evaluation, nothing_known, IsAccepted}
use Rattle.forest_roots.specs.Stump.{Stump, root_in}
use Rattle.proof_verify.specs.Evaluation.{IsEvaluatedAt, AreEvaluatedAt}
use Rattle.proof_verify.specs.declared.evaluation.CoveredPlace.{CoveredPlace}
use Rattle.proof_verify.specs.declared.evaluation.Preimage.TheVariants.{Target}
use Rattle.proof_verify.proofs.Values.{asked_all}
use Rattle.state_text.specs.Merged.{StandsIn, IsRightRoot, AreRightRoots}

pub all_from : {X : Type 0} (P : X → Type 0) (xs : List X) → ((m : ℕ) (d : X) → m < length xs → P (get_or xs m d)) → AllByRecursion P xs
all_from P [] h = tt
all_from P (x ∷ xs) h = (h 0 x (omega arith), all_from P xs (λ m d lt. h (suc m) d (omega (arith, lt))))

pub all_at : {X : Type 0} (P : X → Type 0) (xs : List X) → AllByRecursion P xs → (m : ℕ) (d : X) → m < length xs → P (get_or xs m d)
all_at P [] a m d lt = absurd (omega (arith, lt))
all_at P (x ∷ xs) a zero d lt = a.0
all_at P (x ∷ xs) a (suc m) d lt = all_at P xs a.1 m d (omega (arith, lt))

module _ (H : List ℕ → Digest) (f : Stump) (ts : List Place) (leaves hashes : List Digest) (items : List CoveredPlace)
    (are : AreEvaluatedAt H f.leaves ts leaves hashes items) where
  abbrev comes_to : Cover → Digest
  comes_to c = evaluation H f.leaves ts nothing_known leaves hashes c

  pub inside : AllByRecursion (StandsIn f.leaves) items
  inside = all_from (StandsIn f.leaves) items (λ m d lt. (are.each m d lt).within)

  -- what is told of a covered place is what its cover comes to
  pub one_digest : (item : CoveredPlace) → IsEvaluatedAt H f.leaves ts leaves hashes item → (c : Cover)
      → cover ts item.place.row item.place.off ≡ Some c → item.digest ≡ comes_to c
  one_digest item is c e = is.digest ∙ ap comes_to (same_Some is.beneath c (sym is.covered ∙ e))

  at_root : AreRightRoots f items → (row : ℕ) (c : Cover) → is_slot f.leaves row ≡ true → cover ts row (root_off f.leaves row) ≡ Some c
      → root_in f row ≡ Some (comes_to c)
  at_root right row c slot e =
      let top : is_root f.leaves row (root_off f.leaves row) ≡ true = is_root-root_off f.leaves row slot in
      let w = are.all row (root_off f.leaves row) c (InForest-root f.leaves row (root_off f.leaves row) top) e in
      let none : CoveredPlace = record { place = record { row = 0; off = 0 }; preimage = Target 0; digest = record { 0 = [] } } in
      by_item (get_or items w.0 none) (are.each w.0 none w.1) (all_at (IsRightRoot f) items right w.0 none w.1) (w.2 none)
    where
      by_item : (item : CoveredPlace) → IsEvaluatedAt H f.leaves ts leaves hashes item → IsRightRoot f item
          → item.place ≡ record { row = row; off = root_off f.leaves row } → root_in f row ≡ Some (comes_to c)
      by_item item is ok same =
          let r : item.place.row ≡ row = ap (λ (p : Place). p.row) same in
          let o : item.place.off ≡ root_off f.leaves row = ap (λ (p : Place). p.off) same in
          let found = ok (ap₂ (is_root f.leaves) r o ∙ is_root-root_off f.leaves row slot) in
          ap (root_in f) (sym r) ∙ (found ∙ ap (λ (d : Digest). let x : Option Digest = Some d in x) (one_digest item is c (ap₂ (cover ts) r o ∙ e)))

  pub accepted : HasShape f.leaves ts → length leaves ≡ length ts → length hashes ≡ length (need f.leaves ts) → AreRightRoots f items
      → IsAccepted H f.leaves (root_in f) ts nothing_known leaves hashes
  accepted shape leaf_each hash_each right = record {
    shape = shape;
    one_leaf_each = leaf_each;
    one_hash_each = hash_each ∙ ap length (sym (asked_all f.leaves ts));
    agrees = λ row c slot e. at_root right row c slot e;
  }

  pub roots_right : IsAccepted H f.leaves (root_in f) ts nothing_known leaves hashes → AreRightRoots f items
  roots_right a = all_from (IsRightRoot f) items (λ m d lt. by_item (get_or items m d) (are.each m d lt))
    where
      by_item : (item : CoveredPlace) → IsEvaluatedAt H f.leaves ts leaves hashes item → IsRightRoot f item
      by_item item is top =
          let w = root_off-is_root f.leaves item.place.row item.place.off top in
          a.agrees item.place.row is.beneath w.1 (ap (cover ts item.place.row) (sym w.0) ∙ is.covered)
          ∙ ap (λ (d : Digest). let x : Option Digest = Some d in x) (sym is.digest)
