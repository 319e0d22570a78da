-- What stands at a place is a part of its slot's tree, and what is covered of its slot's cover; so their texts are listed.
use Rattle.std.proofs.Common.{◌≡◌, ℕ, zero, suc, ◌+◌, ◌-◌, ◌*◌, ◌/◌, ◌%◌, true, List, length, Option, Some, Contains, sym, ap, ◌∙◌, ⊎_elim, arith}
use Rattle.std.proofs.lemmas.Bool.{cases_Bool, cases_eq}
use Rattle.std.proofs.lemmas.List.Elements.{Contains-append_left, Contains-append_right}
use Rattle.uo_digest.specs.declared.digest.Digest.{Digest}
use Rattle.forest_place.specs.declared.place.Place.{Place}
use Rattle.forest_place.specs.Forest.{InForest, is_root, is_slot, root_off}
use Rattle.forest_place.specs.Places.{has_place}
use Rattle.forest_place.proofs.Parts.{row_below, root_off-is_root, InForest-up}
use Rattle.forest_model.specs.Content.{Tree, inner, content, node_texts}
use Rattle.forest_model.specs.Standing.{tree_at}
use Rattle.forest_model.specs.Cover.{Cover, both, cover_of_halves, cover, HasShape}
use Rattle.forest_model.specs.Evaluation.{value_texts}
use Rattle.forest_model.proofs.Climbs.{tree_at-root, tree_at-left, tree_at-right}
use Rattle.forest_model.proofs.Covers.{inner_from_left, inner_from_right}
use Rattle.forest_model.proofs.Clash.{Contains-later}
use Rattle.forest_model.proofs.Extract.{parent_no_target, both_left, both_right, cover-both}

-- the two children
even_at : (o : ℕ) → o % 2 ≡ 0 → 2 * (o / 2) ≡ o
even_at o e = omega (arith, e)

odd_at : (o : ℕ) → (o % 2 ≡ 0 → ⊥) → 2 * (o / 2) + 1 ≡ o
odd_at o e = omega (arith, e)

module _ (H : List ℕ → Digest) (es : List (Option Digest)) (text_of : ℕ → List ℕ) where
  pub record IsOfSlot (x : List ℕ) : Type 0 where
    pub row : ℕ
    pub tree : Tree
    pub slot : is_slot (length es) row ≡ true
    pub of_slot : content es row (root_off (length es) row) ≡ Some tree
    pub listed : Contains (node_texts H text_of tree) x

  pub node_listed : (k r o : ℕ) (t : Tree) (x : List ℕ) → length es - r ≡ k → InForest (length es) r o → tree_at es r o ≡ Some t
      → Contains (node_texts H text_of t) x → IsOfSlot x
  node_listed zero r o t x n h s c = let lt = row_below (length es) r o h in absurd (omega (arith, n, lt))
  node_listed (suc k) r o t x n h s c =
      ⊎_elim
      (λ (top : is_root (length es) r o ≡ true).
      let w = root_off-is_root (length es) r o top in
      record { row = r; tree = t; slot = w.1; of_slot = ap (content es r) (sym w.0) ∙ (sym (tree_at-root es r o top) ∙ s); listed = c })
      (λ other.
      let up = InForest-up (length es) r o h other in
      ⊎_elim
      (λ even.
      let at = even_at o even in
      let w = inner_from_left (tree_at es (suc r) (o / 2)) t (sym (tree_at-left es r (o / 2) up) ∙ (ap (tree_at es r) at ∙ s)) in
      node_listed k (suc r) (o / 2) (inner t w.0) x (omega (arith, n)) up w.1
      (Contains-later _ x _ (Contains-append_left (node_texts H text_of t) (node_texts H text_of w.0) x c)))
      (λ odd.
      let at = odd_at o odd in
      let w = inner_from_right (tree_at es (suc r) (o / 2)) t (sym (tree_at-right es r (o / 2) up) ∙ (ap (tree_at es r) at ∙ s)) in
      node_listed k (suc r) (o / 2) (inner w.0 t) x (omega (arith, n)) up w.1
      (Contains-later _ x _ (Contains-append_right (node_texts H text_of w.0) (node_texts H text_of t) x c)))
      (cases_eq (o % 2) 0))
      (cases_Bool (is_root (length es) r o))

module _ (H : List ℕ → Digest) (n : ℕ) (ts : List Place) (shape : HasShape n ts) (leaf_texts : ℕ → ℕ → List ℕ) (hashes : ℕ → ℕ → Digest) where
  pub record IsOfCover (x : List ℕ) : Type 0 where
    pub row : ℕ
    pub covered : Cover
    pub slot : is_slot n row ≡ true
    pub of_slot : cover ts row (root_off n row) ≡ Some covered
    pub listed : Contains (value_texts H leaf_texts hashes covered) x

  above_left : (r h : ℕ) (c : Cover) → cover ts r (2 * h) ≡ Some c → (d : Cover) × (cover ts (suc r) h ≡ Some (both c d))
  above_left r h c e =
      let w = both_left r h c (cover ts r (2 * h + 1)) in
      let half_is : (2 * h) / 2 ≡ h = omega arith in
      let no_target = ap (has_place ts (suc r)) (sym half_is) ∙ parent_no_target n ts shape r (2 * h) c e in
      (w.0, cover-both ts r h no_target ∙ (ap (λ (x : Option Cover). cover_of_halves r h x (cover ts r (2 * h + 1))) e ∙ w.1))

  above_right : (r h : ℕ) (c : Cover) → cover ts r (2 * h + 1) ≡ Some c → (d : Cover) × (cover ts (suc r) h ≡ Some (both d c))
  above_right r h c e =
      let w = both_right r h c (cover ts r (2 * h)) in
      let half_is : (2 * h + 1) / 2 ≡ h = omega arith in
      let no_target = ap (has_place ts (suc r)) (sym half_is) ∙ parent_no_target n ts shape r (2 * h + 1) c e in
      (w.0, cover-both ts r h no_target ∙ (ap (λ (x : Option Cover). cover_of_halves r h (cover ts r (2 * h)) x) e ∙ w.1))

  pub cover_listed : (k r o : ℕ) (c : Cover) (x : List ℕ) → n - r ≡ k → InForest n r o → cover ts r o ≡ Some c
      → Contains (value_texts H leaf_texts hashes c) x → IsOfCover x
  cover_listed zero r o c x m h e l = let lt = row_below n r o h in absurd (omega (arith, m, lt))
  cover_listed (suc k) r o c x m h e l =
      ⊎_elim
      (λ (top : is_root n r o ≡ true).
      let w = root_off-is_root n r o top in
      record { row = r; covered = c; slot = w.1; of_slot = ap (cover ts r) (sym w.0) ∙ e; listed = l })
      (λ other.
      let up = InForest-up n r o h other in
      ⊎_elim
      (λ even.
      let w = above_left r (o / 2) c (ap (cover ts r) (even_at o even) ∙ e) in
      cover_listed k (suc r) (o / 2) (both c w.0) x (omega (arith, m)) up w.1
      (Contains-later _ x _ (Contains-append_left (value_texts H leaf_texts hashes c) (value_texts H leaf_texts hashes w.0) x l)))
      (λ odd.
      let w = above_right r (o / 2) c (ap (cover ts r) (odd_at o odd) ∙ e) in
      cover_listed k (suc r) (o / 2) (both w.0 c) x (omega (arith, m)) up w.1
      (Contains-later _ x _ (Contains-append_right (value_texts H leaf_texts hashes w.0) (value_texts H leaf_texts hashes c) x l)))
      (cases_eq (o % 2) 0))
      (cases_Bool (is_root n r o))
