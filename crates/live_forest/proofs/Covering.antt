-- Which places are covered: those where the tree that stands there has one of the entries at the targets.
use Rattle.std.proofs.Common.{◌≡◌, ℕ, zero, suc, ◌+◌, ◌*◌, ◌/◌, ◌%◌, ◌^◌, true, List, length, get_or, Option, Some, None, refl, sym, ap, ◌∙◌, subst}
use Rattle.std.proofs.Common.{⊎_elim, inl, inr, arith}
use Rattle.std.specs.Prelude.{option_and_then}
use Rattle.std.proofs.lemmas.Bool.{cases_eq}
use Rattle.std.proofs.lemmas.Nat.{shr-shr}
use Rattle.std.proofs.lemmas.Option.{none-some, same_Some}
use Rattle.uo_digest.specs.declared.digest.Digest.{Digest}
use Rattle.forest_place.specs.declared.place.Place.{Place}
use Rattle.forest_place.specs.Forest.{InForest}
use Rattle.forest_place.specs.Places.{has_place}
use Rattle.forest_place.proofs.Parts.{parts-suc, half_pow, InForest-beneath}
use Rattle.forest_model.specs.Content.{Tree, leaf, inner, content}
use Rattle.forest_model.specs.Standing.{half, tree_at}
use Rattle.forest_model.specs.Cover.{Cover, cover}
use Rattle.forest_model.specs.Deletion.{entries_without, tree_without, StandAt}
use Rattle.forest_model.proofs.Climbs.{tree_at-up, nothing_beneath, inner_from_half}
use Rattle.forest_model.proofs.Deleting.{is_spent, get_or-entries_without, content-entries_without, target_entry, place_at, stays_whole}
use Rattle.forest_model.proofs.Living.{content_none_iff}
use Rattle.forest_model.proofs.Unique.{HasLeaf, EachLeaf, join_cases, leaf_from, content-leaves, content-part, tree_at-leaves}
use Rattle.forest_model.proofs.Extract.{target_beneath as beneath_cover}

-- a target at or beneath a place
record HasTarget (ts : List Place) (r o : ℕ) : Type 0 where
  deep : ℕ
  row : ℕ
  off : ℕ
  up : row + deep ≡ r
  beneath : off / 2 ^ deep ≡ o
  is : has_place ts row off ≡ true

-- what is covered has a target
target_beneath : (ts : List Place) (r o : ℕ) (c : Cover) → cover ts r o ≡ Some c → HasTarget ts r o
target_beneath ts r o c e =
    let t = beneath_cover ts r o c e in record { deep = t.1; row = t.0.row; off = t.0.off; up = t.3; beneath = t.4; is = t.2 }

half_has : (i side : ℕ) (l r s : Tree) → half side (Some (inner l r)) ≡ Some s → HasLeaf i s → HasLeaf i (inner l r)
half_has i zero l r s e h = inl (subst (HasLeaf i) (sym (same_Some l s e)) h)
half_has i (suc side) l r s e h = inr (subst (HasLeaf i) (sym (same_Some r s e)) h)

-- the leaves of what stands beneath a place are leaves of the tree that stands there
leaf_above : (es : List (Option Digest)) (i k r o row off : ℕ) (s : Tree) → r + k ≡ row → o / 2 ^ k ≡ off → InForest (length es) row off
    → tree_at es r o ≡ Some s → HasLeaf i s → (t : Tree) × (tree_at es row off ≡ Some t) × HasLeaf i t
leaf_above es i zero r o row off s e f within st h =
    let a : row ≡ r = omega (arith, e) in
    let z : o / 1 ≡ off = f in
    let b : off ≡ o = omega (arith, z) in
    (s, ap (λ x. tree_at es x off) a ∙ (ap (tree_at es r) b ∙ st), h)
leaf_above es i (suc k) r o row off s e f within st h =
    let a : suc r + k ≡ row = omega (arith, e) in
    let b : o / 2 / 2 ^ k ≡ off = sym (half_pow o k) ∙ f in
    let up = InForest-beneath (length es) k (suc r) (o / 2)
    (subst (λ x. InForest (length es) x (o / 2 / 2 ^ k)) (sym a) (subst (InForest (length es) row) (sym b) within)) in
    let w = inner_from_half (o % 2) (tree_at es (suc r) (o / 2)) s (sym (tree_at-up es r o up) ∙ st) in
    leaf_above es i k (suc r) (o / 2) row off (inner w.0 w.1) a b within w.2 (half_has i (o % 2) w.0 w.1 s w.3 h)

-- the tree of a part has each live entry of it
part_has : (es : List (Option Digest)) (i : ℕ) (d : Digest) → get_or es i None ≡ Some d → (row off : ℕ) (t : Tree) → i / 2 ^ row ≡ off
    → content es row off ≡ Some t → HasLeaf i t
part_has es i d live zero off t part e =
    let l = leaf_from off (get_or es off None) t e in
    let o : i ≡ off = let z : i / 1 ≡ off = part in omega (arith, z) in
    subst (HasLeaf i) (sym l.1) o
part_has es i d live (suc row) off t part e =
    let a : i / 2 ^ suc row ≡ i / 2 ^ row / 2 = parts-suc i row in
    let none = λ (p : ℕ) (at : i / 2 ^ row ≡ p) (f : content es row p ≡ None). none-some d (sym ((content_none_iff es row p).0 f i at) ∙ live) in
    ⊎_elim
    (λ (even : i / 2 ^ row ≡ 2 * off).
    ⊎_elim (λ x. part_has es i d live row (2 * off) t even x.0)
    (⊎_elim (λ x. absurd (none (2 * off) even x.0))
    (λ x. subst (HasLeaf i) (sym x.4) (inl (part_has es i d live row (2 * off) x.0 even x.2))))
    (join_cases (content es row (2 * off)) (content es row (2 * off + 1)) t e))
    (λ other.
    let odd : i / 2 ^ row ≡ 2 * off + 1 = omega (arith, a, part, other) in
    ⊎_elim (λ x. absurd (none (2 * off + 1) odd x.1))
    (⊎_elim (λ x. part_has es i d live row (2 * off + 1) t odd x.1)
    (λ x. subst (HasLeaf i) (sym x.4) (inr (part_has es i d live row (2 * off + 1) x.1 odd x.3))))
    (join_cases (content es row (2 * off)) (content es row (2 * off + 1)) t e))
    (cases_eq (i / 2 ^ row) (2 * off))

leaf_is : (P : ℕ → Digest → Type 0) (i : ℕ) (t : Tree) → EachLeaf P t → HasLeaf i t → (d : Digest) × P i d
leaf_is P i (leaf j d) each h = (d, subst (λ k. P k d) (sym h) each)
leaf_is P i (inner l r) each h = ⊎_elim (λ k. leaf_is P i l each.0 k) (λ k. leaf_is P i r each.1 k) h

module _ (es : List (Option Digest)) (ts : List Place) (all : List ℕ) (at : StandAt es ts all) where
  -- a place is covered whose tree has one of the entries
  pub covered : (row off : ℕ) (q : Place) (i : ℕ) → tree_at es q.row q.off ≡ content es row off → is_spent all i ≡ true → i / 2 ^ row ≡ off
      → (c : Cover) × (cover ts q.row q.off ≡ Some c)
  covered row off q i s spent part = by_cover (cover ts q.row q.off) refl
    where
      gone : get_or (entries_without all es) i None ≡ None
      gone = get_or-entries_without all es i ∙ rw spent refl

      by_tree : (d : Digest) → get_or es i None ≡ Some d → cover ts q.row q.off ≡ None → (x : Option Tree) → content es row off ≡ x → ⊥
      by_tree d live e None g = none-some d (sym ((content_none_iff es row off).0 g i part) ∙ live)
      by_tree d live e (Some t) g =
          let left : content (entries_without all es) row off ≡ Some t = content-entries_without all es row off
          ∙ (ap (option_and_then (tree_without all)) g ∙ stays_whole es ts all at q.row q.off (Some t) (s ∙ g) e) in
          let w = leaf_is (λ j x. get_or (entries_without all es) j None ≡ Some x) i t (content-leaves (entries_without all es) row off t left)
          (part_has es i d live row off t part g) in
          none-some w.0 (sym gone ∙ w.1)

      by_cover : (x : Option Cover) → cover ts q.row q.off ≡ x → (c : Cover) × (x ≡ Some c)
      by_cover None e =
          let w = place_at es ts all i at spent in
          absurd (by_tree w.2 (tree_at-leaves es w.0 w.1 (leaf i w.2) w.3) e (content es row off) refl)
      by_cover (Some c) e = (c, refl)

  -- a target at or beneath a place of the forest has an entry of the tree that stands there
  target_leaf : (r o k : ℕ) (q : Place) → InForest (length es) q.row q.off → r + k ≡ q.row → o / 2 ^ k ≡ q.off → HasTarget ts r o
      → (i : ℕ) × (t : Tree) × (is_spent all i ≡ true) × (tree_at es q.row q.off ≡ Some t) × HasLeaf i t
  target_leaf r o k q within e f h =
      let w = target_entry es ts all h.row h.off at h.is in
      let b : h.off / 2 ^ (h.deep + k) ≡ q.off = sym (shr-shr h.off h.deep k) ∙ (ap (λ x. x / 2 ^ k) h.beneath ∙ f) in
      let t = leaf_above es w.0 (h.deep + k) h.row h.off q.row q.off (leaf w.0 w.1) (omega (arith, h.up, e)) b within w.2 refl in
      (w.0, t.0, w.3, t.1, t.2)

  -- where the tree of a place of the forest has none of them, no place is covered at or beneath it
  pub uncovered : (row off : ℕ) (q : Place) → InForest (length es) q.row q.off → tree_at es q.row q.off ≡ content es row off
      → ((i : ℕ) → is_spent all i ≡ true → i / 2 ^ row ≡ off → ⊥) → (k r o : ℕ) → r + k ≡ q.row → o / 2 ^ k ≡ q.off → cover ts r o ≡ None
  uncovered row off q within s none k r o e f = by_cover (cover ts r o) refl
    where
      by_cover : (x : Option Cover) → cover ts r o ≡ x → x ≡ None
      by_cover None g = refl
      by_cover (Some c) g =
          let w = target_leaf r o k q within e f (target_beneath ts r o c g) in
          absurd (none w.0 w.2 (content-part es row off w.1 w.0 (sym s ∙ w.3) w.4))

  -- none is covered beneath one entry
  pub uncovered_under : (q : Place) (i : ℕ) (d : Digest) → tree_at es q.row q.off ≡ Some (leaf i d) → (k r o : ℕ) → r + suc k ≡ q.row
      → o / 2 ^ suc k ≡ q.off → cover ts r o ≡ None
  uncovered_under q i d s k r o e f = by_cover (cover ts r o) refl
    where
      by_cover : (x : Option Cover) → cover ts r o ≡ x → x ≡ None
      by_cover None g = refl
      by_cover (Some c) g =
          let h = target_beneath ts r o c g in
          let w = target_entry es ts all h.row h.off at h.is in
          let a : q.row ≡ h.row + suc (h.deep + k) = omega (arith, h.up, e) in
          let l : h.deep + suc k ≡ suc (h.deep + k) = omega arith in
          let b : q.off ≡ h.off / 2 ^ suc (h.deep + k) =
          sym f ∙ (ap (λ x. x / 2 ^ suc k) (sym h.beneath) ∙ (shr-shr h.off h.deep (suc k) ∙ ap (λ x. h.off / 2 ^ x) l)) in
          let st = subst (λ x. tree_at es x (h.off / 2 ^ suc (h.deep + k)) ≡ Some (leaf i d)) a
          (subst (λ x. tree_at es q.row x ≡ Some (leaf i d)) b s) in
          absurd (none-some (leaf w.0 w.1) (sym (nothing_beneath es (h.deep + k) h.row h.off i d st) ∙ w.2))
