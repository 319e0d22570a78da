-- The hashes of all needed places serve as those of a message in full.
use Rattle.std.proofs.Common.{◌≡◌, ℕ, zero, suc, ◌+◌, ◌*◌, Bool, true, false, List, [], ◌∷◌, map, length, Option, Some, None, refl, sym, ap}
use Rattle.std.proofs.Common.{◌∙◌, subst, ap₂, ⊎_elim, eq-eqb}
use Rattle.std.specs.Prelude.{◌==◌, if◌then◌else◌}
use Rattle.std.specs.Option.{option_or}
use Rattle.std.proofs.lemmas.Bool.{cases_Bool}
use Rattle.std.proofs.lemmas.List.{length-map, map-id}
use Rattle.std.proofs.lemmas.Option.{none-some, same_Some}
use Rattle.uo_digest.specs.declared.digest.Digest.{Digest}
use Rattle.forest_place.specs.declared.place.Place.{Place}
use Rattle.forest_place.specs.Forest.{InForest, is_slot, root_off, sibling_off}
use Rattle.forest_place.specs.Places.{has_place}
use Rattle.forest_place.proofs.Listed.{place}
use Rattle.forest_place.proofs.Parts.{InForest-root, InForest-left, InForest-right, not_root-left, not_root-right, is_root-root_off}
use Rattle.forest_place.proofs.Siblings.{sibling_off-left, sibling_off-right}
use Rattle.forest_model.specs.Content.{pair}
use Rattle.forest_model.specs.Cover.{Cover, target, given, both, cover_of_halves, cover, need, is_needed}
use Rattle.forest_model.specs.Evaluation.{beside, value, asked, hash_of, nothing_known, evaluation}
use Rattle.forest_model.proofs.Lists.{need_has, beside_at}
use Rattle.leaf_record.specs.Leaf.{Outpoint}
use Rattle.block_rules.specs.Steps.{unless, first_of}
use Rattle.block_rules.specs.declared.refusal.ProofRefusal.{ProofRefusal}
use Rattle.block_rules.specs.declared.refusal.ProofRefusal.TheVariants.{HashCount}
use Rattle.node_rules.specs.Messages.{Message, in_full, named, targets, known_to}
use Rattle.node_rules.specs.Accepting.{View, shape_fault, leaves_of, proof_fault, at_cover, first_slot, empty_root, root_differs}
use Rattle.node_rules.specs.Judged.{AreHashes}
use Rattle.proof_verify.proofs.Values.{asked_all}

-- ---- the evaluation of a cover asks for the hashes of needed places alone

module _ (H : List ℕ → Digest) (n : ℕ) (ts : List Place) (f g : ℕ → ℕ → Digest) (same : (r o : ℕ) → InForest n r o → is_needed n ts (place r o) ≡ true
    → f r o ≡ g r o) where
  needed_left : (r o : ℕ) → InForest n (suc r) o → cover ts r (2 * o) ≡ None → (d : Cover) → cover ts r (2 * o + 1) ≡ Some d
      → f r (2 * o) ≡ g r (2 * o)
  needed_left r o h none d e =
      let low = not_root-left n r o h in
      let beside_it : cover ts r (sibling_off (2 * o)) ≡ Some d = ap (cover ts r) (sibling_off-left o) ∙ e in
      same r (2 * o) (InForest-left n r o h) (rw (low, none, beside_it) refl)

  needed_right : (r o : ℕ) → InForest n (suc r) o → cover ts r (2 * o + 1) ≡ None → (d : Cover) → cover ts r (2 * o) ≡ Some d
      → f r (2 * o + 1) ≡ g r (2 * o + 1)
  needed_right r o h none d e =
      let low = not_root-right n r o h in
      let beside_it : cover ts r (sibling_off (2 * o + 1)) ≡ Some d = ap (cover ts r) (sibling_off-right o) ∙ e in
      same r (2 * o + 1) (InForest-right n r o h) (rw (low, none, beside_it) refl)

  -- the hashes that the cover asks for are the same
  abbrev pub AreSame : Cover → Type 0
  AreSame (target r o) = Unit {0}
  AreSame (given r o) = f r o ≡ g r o
  AreSame (both c d) = AreSame c × AreSame d

  pub same_value : (leaves : ℕ → ℕ → Digest) (c : Cover) → AreSame c → value H leaves f c ≡ value H leaves g c
  same_value leaves (target r o) h = refl
  same_value leaves (given r o) h = h
  same_value leaves (both c d) h = ap₂ (pair H) (same_value leaves c h.0) (same_value leaves d h.1)

  -- those of a covered place are
  pub same_cover : (r o : ℕ) (c : Cover) → InForest n r o → cover ts r o ≡ Some c → AreSame c
  same_cover zero o c h e =
      ⊎_elim (λ (it : has_place ts zero o ≡ true). subst AreSame (same_Some _ c (rw it at e)) tt)
      (λ (other : has_place ts zero o ≡ false). absurd (none-some c (rw other at e))) (cases_Bool (has_place ts zero o))
  same_cover (suc r) o c h e =
      ⊎_elim
      (λ (it : has_place ts (suc r) o ≡ true). subst AreSame (same_Some _ c (rw it at e)) tt)
      (λ (other : has_place ts (suc r) o ≡ false). by_halves (cover ts r (2 * o)) (cover ts r (2 * o + 1)) refl refl (rw other at e)
      (λ d. same_cover r (2 * o) d (InForest-left n r o h)) (λ d. same_cover r (2 * o + 1) d (InForest-right n r o h)))
      (cases_Bool (has_place ts (suc r) o))
    where
      by_halves : (x y : Option Cover) → cover ts r (2 * o) ≡ x → cover ts r (2 * o + 1) ≡ y → cover_of_halves r o x y ≡ Some c
          → ((d : Cover) → cover ts r (2 * o) ≡ Some d → AreSame d) → ((d : Cover) → cover ts r (2 * o + 1) ≡ Some d → AreSame d) → AreSame c
      by_halves None None a b e left right = absurd (none-some c e)
      by_halves (Some x) None a b e left right = subst AreSame (same_Some _ c e) (left x a, needed_right r o h b x a)
      by_halves None (Some y) a b e left right = subst AreSame (same_Some _ c e) (needed_left r o h a y b, right y b)
      by_halves (Some x) (Some y) a b e left right = subst AreSame (same_Some _ c e) (left x a, right y b)

-- ---- a message beside the hashes of all needed places

-- the hash of a needed place, in the list of all of them
pub hash_of_all : (H : List ℕ → Digest) (n : ℕ) (ts : List Place) (k : ℕ → ℕ → Digest) (hashes : List Digest)
    → hashes ≡ map (λ (p : Place). k p.row p.off) (need n ts) →
    (r o : ℕ) → InForest n r o → is_needed n ts (place r o) ≡ true → k r o ≡ hash_of H n ts nothing_known hashes r o
hash_of_all H n ts k hashes is r o h needed =
    sym (ap (λ (ps : List Place). beside (H []) ps hashes r o) (asked_all n ts)
    ∙ beside_at (λ (d : Digest). d) (λ (p : Place). k p.row p.off) (H []) (need n ts) hashes r o (map-id hashes ∙ is) (need_has n ts r o h needed))

pub same_evaluation : (H : List ℕ → Digest) (n : ℕ) (m : Message) (known : ℕ → ℕ → Option Digest) (hashes leaves : List Digest) (row off : ℕ)
    (c : Cover) →
    AreHashes m (record { leaves = n; targets = targets n m }) known hashes → InForest n row off → cover (targets n m) row off ≡ Some c →
    evaluation H n (targets n m) (known_to m.lean known) leaves m.proof.hashes c ≡ evaluation H n (targets n m) nothing_known leaves hashes c
same_evaluation H n m known hashes leaves row off c are h e =
    let ts = targets n m in
    let f = hash_of H n ts (known_to m.lean known) m.proof.hashes in
    let g = hash_of H n ts nothing_known hashes in
    same_value H n ts f g (hash_of_all H n ts f hashes (are.hashes_are H)) (beside (H []) ts leaves) c
    (same_cover H n ts f g (hash_of_all H n ts f hashes (are.hashes_are H)) row off c h e)

-- ---- the fault

first_slot-same : (f g : ℕ → Cover → Option ProofRefusal) (n : ℕ) (ts : List Place) (k : ℕ)
    → ((row : ℕ) (c : Cover) → is_slot n row ≡ true → cover ts row (root_off n row) ≡ Some c → f row c ≡ g row c)
    → first_slot f n ts k ≡ first_slot g n ts k
first_slot-same f g n ts zero e = refl
first_slot-same f g n ts (suc row) e = ap₂ option_or (here (is_slot n row) refl) (first_slot-same f g n ts row e)
  where
    at : is_slot n row ≡ true → (x : Option Cover) → cover ts row (root_off n row) ≡ x → at_cover f row x ≡ at_cover g row x
    at s None q = refl
    at s (Some c) q = e row c s q

    here : (b : Bool) → is_slot n row ≡ b → (if b then at_cover f row (cover ts row (root_off n row)) else None)
        ≡ (if b then at_cover g row (cover ts row (root_off n row)) else None)
    here true s = at s (cover ts row (root_off n row)) refl
    here false s = refl

pub same_fault : (H : List ℕ → Digest) (v : View) (points : List Outpoint) (m : Message) (hashes : List Digest) →
    AreHashes m (record { leaves = v.n; targets = targets v.n m }) v.known hashes →
    proof_fault H v points m ≡ proof_fault H v points (in_full m hashes)
same_fault H v points m hashes are =
    let ts = targets v.n m in
    let leaves = leaves_of H points m in
    let wanted = length (asked v.n ts (known_to m.lean v.known)) in
    let all = length (asked v.n ts nothing_known) in
    let many : length hashes ≡ all = ap length (are.hashes_are H) ∙ (length-map (need v.n ts) _ ∙ ap length (sym (asked_all v.n ts))) in
    let passes : (length m.proof.hashes == wanted) ≡ true = eq-eqb _ _ are.count in
    let passes_all : (length hashes == all) ≡ true = eq-eqb _ _ many in
    let shape = shape_fault v.n [] 0 (named v.n m) in
    let empties = first_slot (λ row c. empty_root (v.roots row) row) v.n ts v.n in
    let roots = first_slot-same
    (λ row c. root_differs (v.roots row) (evaluation H v.n ts (known_to m.lean v.known) leaves m.proof.hashes c) row)
    (λ row c. root_differs (v.roots row) (evaluation H v.n ts nothing_known leaves hashes c) row)
    v.n ts v.n
    (λ row c slot e. ap (λ (d : Digest). root_differs (v.roots row) d row)
    (same_evaluation H v.n m v.known hashes leaves row (root_off v.n row) c are
    (InForest-root v.n row (root_off v.n row) (is_root-root_off v.n row slot)) e)) in
    ap₂ (λ (x y : Option ProofRefusal). first_of (shape ∷ x ∷ empties ∷ y ∷ []))
    (ap (λ b. unless b (HashCount wanted (length m.proof.hashes))) passes ∙ sym (ap (λ b. unless b (HashCount all (length hashes))) passes_all))
    roots
