-- What is accepted is right, or two texts clash.
use Rattle.std.proofs.Common.{unwrap_or, ◌≡◌, ◌≢◌, ℕ, zero, suc, ◌+◌, ◌-◌, ◌*◌, ◌/◌, ◌%◌, ◌^◌, ◌<◌, Bool, true, false, List, [], ◌∷◌, map, length}
use Rattle.std.proofs.Common.{get_or, Option, Some, None, All, Contains, refl, sym, ap, ◌∙◌, subst, ap₂, ⊎_elim, inl, inr, arith, eq-eqb}
use Rattle.std.specs.Prelude.{is_none, ◌==◌, ◌⊎◌, option_map, slice_get, nat_lt}
use Rattle.std.specs.List.{AllZip, AllByRecursion}
use Rattle.std.proofs.lemmas.Bool.{cases_Bool, cases_eq, false_from_ne_true, lt-ltb, and_from, false≢true}
use Rattle.std.proofs.lemmas.List.{length-map}
use Rattle.std.proofs.lemmas.List.Elements.{All-head, All-tail}
use Rattle.std.proofs.lemmas.Option.{none-some, same_Some}
use Rattle.uo_digest.specs.declared.digest.Digest.{Digest}
use Rattle.forest_place.specs.declared.place.Place.{Place}
use Rattle.forest_model.specs.Content.{Tree, leaf, inner, content, digest_of, pair}
use Rattle.forest_place.specs.Forest.{InForest, is_root, is_slot, root_off}
use Rattle.forest_model.specs.Standing.{half, tree_at, root, digest_at}
use Rattle.forest_place.specs.Places.{is_at, has_place}
use Rattle.forest_model.specs.Cover.{Cover, target, given, both, cover_of_halves, cover, need, is_needed, HasShape, is_above}
use Rattle.forest_model.specs.Evaluation.{beside, value, value_texts, asked, hash_of, IsAccepted}
use Rattle.forest_model.specs.Right.{IsRight, IsLiveAt, entries, text_at, HasClash}
use Rattle.forest_place.proofs.Parts.{parts-suc, row_below, InForest-root, is_root-root_off, root_off-is_root, InForest-up}
use Rattle.forest_model.proofs.Climbs.{tree_at-root, tree_at-forest, tree_at-left, tree_at-right}
use Rattle.forest_model.proofs.Covers.{Beside, at_target, at_given, at_both, needed_parts}
use Rattle.forest_place.proofs.Siblings.{sibling_off-left, sibling_off-right}
use Rattle.forest_place.proofs.Listed.{filter_had, place}
use Rattle.forest_model.proofs.Lists.{need_had, need_ascending, zip_from, map_from}
use Rattle.forest_model.proofs.Right.{stands_from_digest}
use Rattle.forest_model.proofs.Unique.{EachLeaf, content-leaves, tree_at-leaves}
use Rattle.forest_place.proofs.Ascending.{ascending-filter, distinct_from_ascending}
use Rattle.forest_model.proofs.Clash.{HasTexts, IsFound, Clashes, compared}

-- the record of a live entry
pub record IsEntry {R : Type 0} (H : List ℕ → Digest) (text : R → List ℕ) (us : List (Option R)) (i : ℕ) (d : Digest) : Type 0 where
  pub rec : R
  pub live : slice_get us i ≡ Some (Some rec)
  pub shown : text_at text us i ≡ text rec
  pub digest : d ≡ H (text rec)

pub entry_of : {R : Type 0} (H : List ℕ → Digest) (text : R → List ℕ) (us : List (Option R)) (i : ℕ) (d : Digest)
    → get_or (entries H text us) i None ≡ Some d → IsEntry H text us i d
entry_of H text [] i d e = absurd (none-some d e)
entry_of H text (None ∷ us) zero d e = absurd (none-some d e)
entry_of H text (Some r ∷ us) zero d e = record { rec = r; live = refl; shown = refl; digest = sym (same_Some _ d e) }
entry_of H text (u ∷ us) (suc i) d e = let w = entry_of H text us i d e in record { rec = w.rec; live = w.live; shown = w.shown; digest = w.digest }

-- a target stands at or beneath what is covered
pub target_beneath : (ts : List Place) (r o : ℕ) (c : Cover) → cover ts r o ≡ Some c → (q : Place) × (k : ℕ) × (has_place ts q.row q.off ≡ true)
    × (q.row + k ≡ r) × (q.off / 2 ^ k ≡ o)
target_beneath ts zero o c e =
    ⊎_elim (λ it. (place 0 o, 0, it, refl, (let z : o / 1 ≡ o = omega arith in z))) (λ other. absurd (none-some c (rw other at e)))
    (cases_Bool (has_place ts zero o))
target_beneath ts (suc r) o c e =
    ⊎_elim (λ it. (place (suc r) o, 0, it, (let z : suc r + 0 ≡ suc r = omega arith in z), (let z : o / 1 ≡ o = omega arith in z)))
    (λ other. in_half (cover ts r (2 * o)) (cover ts r (2 * o + 1)) (rw other at e)
    (λ d f. up_from (2 * o) (let z : (2 * o) / 2 ≡ o = omega arith in z) (target_beneath ts r (2 * o) d f))
    (λ d f. up_from (2 * o + 1) (let z : (2 * o + 1) / 2 ≡ o = omega arith in z) (target_beneath ts r (2 * o + 1) d f)))
    (cases_Bool (has_place ts (suc r) o))
  where
    up_from : (p : ℕ) → p / 2 ≡ o → (q : Place) × (k : ℕ) × (has_place ts q.row q.off ≡ true) × (q.row + k ≡ r) × (q.off / 2 ^ k ≡ p)
        → (q : Place) × (k : ℕ) × (has_place ts q.row q.off ≡ true) × (q.row + k ≡ suc r) × (q.off / 2 ^ k ≡ o)
    up_from p e w = (
      w.0,
      suc w.1,
      w.2,
      (let z : w.0.row + suc w.1 ≡ suc r = omega (arith, w.3) in z),
      parts-suc w.0.off w.1 ∙ ap (λ x. x / 2) w.4
          ∙ e,
    )

    in_half : {A : Type 0} (x y : Option Cover) → cover_of_halves r o x y ≡ Some c → ((d : Cover) → x ≡ Some d → A) → ((d : Cover) → y ≡ Some d → A)
        → A
    in_half None None e f g = absurd (none-some c e)
    in_half (Some d) y e f g = f d refl
    in_half None (Some d) e f g = g d refl

-- so its parent is no target
pub parent_no_target : (n : ℕ) (ts : List Place) → HasShape n ts → (r o : ℕ) (c : Cover) → cover ts r o ≡ Some c
    → has_place ts (suc r) (o / 2) ≡ false
parent_no_target n ts shape r o c e =
    let w = target_beneath ts r o c e in
    false_from_ne_true _ (λ it.
    let lt : w.0.row < suc r = omega (arith, w.3) in
    let k : suc r - w.0.row ≡ suc w.1 = omega (arith, w.3) in
    let up : w.0.off / 2 ^ (suc r - w.0.row) ≡ o / 2 = ap (λ x. w.0.off / 2 ^ x) k ∙ (parts-suc w.0.off w.1 ∙ ap (λ x. x / 2) w.4) in
    let above : is_above (place (suc r) (o / 2)) w.0 ≡ true =
    and_from (nat_lt w.0.row (suc r)) (w.0.off / 2 ^ (suc r - w.0.row) == o / 2) (lt-ltb _ _ lt) (eq-eqb _ _ up) in
    false≢true (sym (shape.apart (place (suc r) (o / 2)) w.0 it w.2) ∙ above))

-- the form of a cover above what is covered
pub both_left : (r o : ℕ) (c : Cover) (y : Option Cover) → (d : Cover) × (cover_of_halves r o (Some c) y ≡ Some (both c d))
    × (y ≡ None → d ≡ given r (2 * o + 1))
both_left r o c None = (given r (2 * o + 1), refl, λ e. refl)
both_left r o c (Some d) = (d, refl, λ e. absurd (none-some d (sym e)))

pub both_right : (r o : ℕ) (c : Cover) (x : Option Cover) → (d : Cover) × (cover_of_halves r o x (Some c) ≡ Some (both d c))
    × (x ≡ None → d ≡ given r (2 * o))
both_right r o c None = (given r (2 * o), refl, λ e. refl)
both_right r o c (Some d) = (d, refl, λ e. absurd (none-some d (sym e)))

pub cover-both : (ts : List Place) (r o : ℕ) → has_place ts (suc r) o ≡ false
    → cover ts (suc r) o ≡ cover_of_halves r o (cover ts r (2 * o)) (cover ts r (2 * o + 1))
cover-both ts r o e = rw e refl

Beside-both : {P Q : ℕ → ℕ → Tree → Type 0} (c d : Cover) (t : Tree) → Beside P Q (both c d) t → (a : Tree) × (b : Tree) × (t ≡ inner a b)
    × Beside P Q c a × Beside P Q d b
Beside-both c d t (at_both {l = a} {r = b} x y) = (a, b, refl, x, y)

Beside-given : {P Q : ℕ → ℕ → Tree → Type 0} (r o : ℕ) (t : Tree) → Beside P Q (given r o) t → Q r o t
Beside-given r o t (at_given q) = q

Beside-target : {P Q : ℕ → ℕ → Tree → Type 0} (r o : ℕ) (t : Tree) → Beside P Q (target r o) t → P r o t
Beside-target r o t (at_target p) = p

pub cover-target : (ts : List Place) (r o : ℕ) → has_place ts r o ≡ true → cover ts r o ≡ Some (target r o)
cover-target ts zero o it = rw it refl
cover-target ts (suc r) o it = rw it refl

-- what is beside each place is of one length, where all is
beside_long : (none : Digest) (ps : List Place) (ds : List Digest) (r o : ℕ) → length none.0 ≡ 32 → All (λ d. length d.0 ≡ 32) ds
    → length (beside none ps ds r o).0 ≡ 32
beside_long none [] ds r o h a = h
beside_long none (p ∷ ps) [] r o h a = h
beside_long none (p ∷ ps) (d ∷ ds) r o h a =
    ⊎_elim (λ e. rw e (All-head (λ d. length d.0 ≡ 32) d ds a)) (λ e. rw e (beside_long none ps ds r o h (All-tail (λ d. length d.0 ≡ 32) d ds a)))
    (cases_Bool (is_at r o p))

pub beside_other : (ps : List Place) (xs : List (List ℕ)) (r o : ℕ) → All (λ x. length x ≢ 64) xs → length (beside [] ps xs r o) ≢ 64
beside_other [] xs r o a e = absurd (omega (arith, e))
beside_other (p ∷ ps) [] r o a e = absurd (omega (arith, e))
beside_other (p ∷ ps) (x ∷ xs) r o a e =
    ⊎_elim (λ i. All-head (λ x. length x ≢ 64) x xs a (rw i at e)) (λ i. beside_other ps xs r o (All-tail (λ x. length x ≢ 64) x xs a) (rw i at e))
    (cases_Bool (is_at r o p))

module _ (H : List ℕ → Digest) (es : List (Option Digest)) (text_of : ℕ → List ℕ) (ts : List Place) (xs : List (List ℕ)) (hashes : ℕ → ℕ
    → Digest) where
  abbrev leaf_texts : ℕ → ℕ → List ℕ
  leaf_texts = beside [] ts xs

  abbrev pub Found : Cover → Tree → Type 0
  Found = IsFound H text_of leaf_texts hashes

  pub record ClashAt : Type 0 where
    pub row : ℕ
    pub covered : Cover
    pub tree : Tree
    pub slot : is_slot (length es) row ≡ true
    pub of_cover : cover ts row (root_off (length es) row) ≡ Some covered
    pub of_tree : content es row (root_off (length es) row) ≡ Some tree
    pub clash : Clashes H text_of leaf_texts hashes covered tree

  abbrev FoundAt : ℕ → ℕ → Cover → Type 0
  FoundAt r o c = (t : Tree) × (tree_at es r o ≡ Some t) × Found c t

  module _ (long : (x : List ℕ) → length (H x).0 ≡ 32) (hash_long : (r o : ℕ) → length (hashes r o).0 ≡ 32) (xs_long : All (λ x. length x ≢ 64) xs)
      (entry : (i : ℕ) (d : Digest) → get_or es i None ≡ Some d → (H (text_of i) ≡ d) × (length (text_of i) ≢ 64)) where
    has_texts : (t : Tree) → EachLeaf (λ i d. get_or es i None ≡ Some d) t → HasTexts H text_of leaf_texts hashes t
    has_texts (leaf i d) h = entry i d h
    has_texts (inner l r) h = (has_texts l h.0, has_texts r h.1)

    module _ (agrees : (row : ℕ) (c : Cover) → is_slot (length es) row ≡ true → cover ts row (root_off (length es) row) ≡ Some c
        → root H es row ≡ Some (value H (λ r o. H (leaf_texts r o)) hashes c)) where
      slot_found : (row : ℕ) (c : Cover) → is_slot (length es) row ≡ true → cover ts row (root_off (length es) row) ≡ Some c
          → FoundAt row (root_off (length es) row) c ⊎ ClashAt
      slot_found row c slot e =
          let o = root_off (length es) row in
          let a = agrees row c slot e in
          let t = stands_from_digest H (content es row o) _ (sym a) in
          let same : value H (λ r o. H (leaf_texts r o)) hashes c ≡ digest_of H t.0 = same_Some _ _ (sym a ∙ ap (option_map (digest_of H)) t.1) in
          ⊎_elim
          (λ f. inl (t.0, tree_at-root es row o (is_root-root_off (length es) row slot) ∙ t.1, f))
          (λ x. inr record { row = row; covered = c; tree = t.0; slot = slot; of_cover = e; of_tree = t.1; clash = x })
          (compared H text_of leaf_texts hashes long hash_long (λ r o. beside_other ts xs r o xs_long) c t.0
          (has_texts t.0 (content-leaves es row o t.0 t.1)) same)

      -- all the slots of the first k rows are found, or one has a clash
      slots_found : (k : ℕ) → ((row : ℕ) (c : Cover) → row < k → is_slot (length es) row ≡ true → cover ts row (root_off (length es) row) ≡ Some c
          → FoundAt row (root_off (length es) row) c) ⊎ ClashAt
      slots_found zero = inl (λ row c lt slot e. absurd (omega arith))
      slots_found (suc k) =
          ⊎_elim
          (λ below. ⊎_elim
          (λ here. inl (λ row c lt slot e. ⊎_elim (λ same. subst (λ r. (c : Cover) → is_slot (length es) r ≡ true
          → cover ts r (root_off (length es) r) ≡ Some c → FoundAt r (root_off (length es) r) c) (sym same) here c slot e)
          (λ other. below row c (omega (arith, other)) slot e) (cases_eq row k)))
          (λ x. inr x)
          (at_row k (is_slot (length es) k) refl (cover ts k (root_off (length es) k)) refl))
          (λ x. inr x)
          (slots_found k)
        where
          at_row : (k : ℕ) (b : Bool) → is_slot (length es) k ≡ b → (x : Option Cover) → cover ts k (root_off (length es) k) ≡ x
              → ((c : Cover) → is_slot (length es) k ≡ true → cover ts k (root_off (length es) k) ≡ Some c → FoundAt k (root_off (length es) k) c)
              ⊎ ClashAt
          at_row k false s x e = inl (λ c slot f. absurd (false≢true (sym s ∙ slot)))
          at_row k true s None e = inl (λ c slot f. absurd (none-some c (sym e ∙ f)))
          at_row k true s (Some c) e =
              ⊎_elim
              (λ f. inl (λ d slot g. subst (FoundAt k (root_off (length es) k)) (same_Some c d (sym e ∙ g)) f))
              (λ x. inr x)
              (slot_found k c s e)

  module _ (shape : HasShape (length es) ts) (found : (row : ℕ) (c : Cover) → is_slot (length es) row ≡ true
      → cover ts row (root_off (length es) row) ≡ Some c → FoundAt row (root_off (length es) row) c) where
    halves_found : (r h : ℕ) (c d : Cover) → FoundAt (suc r) h (both c d) → FoundAt r (2 * h) c × FoundAt r (2 * h + 1) d
    halves_found r h c d f =
        let w = Beside-both c d f.0 f.2 in
        let s : tree_at es (suc r) h ≡ Some (inner w.0 w.1) = f.1 ∙ ap Some w.2 in
        let up = tree_at-forest es (suc r) h (inner w.0 w.1) s in
        ((w.0, tree_at-left es r h up ∙ ap (half 0) s, w.3), (w.1, tree_at-right es r h up ∙ ap (half 1) s, w.4))

    -- above what is covered, the cover has two halves
    above_left : (r h : ℕ) (c : Cover) → cover ts r (2 * h) ≡ Some c → cover ts (suc r) h ≡ Some (both c (both_left r h c (cover ts r (2 * h + 1))).0)
    above_left r h c e =
        let half_is : (2 * h) / 2 ≡ h = omega arith in
        let no_target : has_place ts (suc r) h ≡ false = ap (has_place ts (suc r)) (sym half_is)
        ∙ parent_no_target (length es) ts shape r (2 * h) c e in
        cover-both ts r h no_target ∙ ap (λ x. cover_of_halves r h x (cover ts r (2 * h + 1))) e ∙ (both_left r h c (cover ts r (2 * h + 1))).1

    above_right : (r h : ℕ) (c : Cover) → cover ts r (2 * h + 1) ≡ Some c
        → cover ts (suc r) h ≡ Some (both (both_right r h c (cover ts r (2 * h))).0 c)
    above_right r h c e =
        let half_is : (2 * h + 1) / 2 ≡ h = omega arith in
        let no_target : has_place ts (suc r) h ≡ false = ap (has_place ts (suc r)) (sym half_is)
        ∙ parent_no_target (length es) ts shape r (2 * h + 1) c e in
        cover-both ts r h no_target ∙ ap (λ x. cover_of_halves r h (cover ts r (2 * h)) x) e ∙ (both_right r h c (cover ts r (2 * h))).1

    -- each covered place is found, from its root down
    covered_found : (k r o : ℕ) (c : Cover) → length es - r ≡ k → InForest (length es) r o → cover ts r o ≡ Some c → FoundAt r o c
    covered_found zero r o c n h e = let lt = row_below (length es) r o h in absurd (omega arith)
    covered_found (suc k) r o c n h e =
        ⊎_elim
        (λ top.
        let w = root_off-is_root (length es) r o top in
        subst (λ x. FoundAt r x c) (sym w.0) (found r c w.1 (ap (cover ts r) (sym w.0) ∙ e)))
        (λ other.
        let up = InForest-up (length es) r o h other in
        ⊎_elim
        (λ even.
        let at : 2 * (o / 2) ≡ o = omega (arith, even) in
        let e' = ap (cover ts r) at ∙ e in
        let f = covered_found k (suc r) (o / 2) _ (omega arith) up (above_left r (o / 2) c e') in
        subst (λ x. FoundAt r x c) at (halves_found r (o / 2) c _ f).0)
        (λ odd.
        let at : 2 * (o / 2) + 1 ≡ o = omega (arith, odd) in
        let e' = ap (cover ts r) at ∙ e in
        let f = covered_found k (suc r) (o / 2) _ (omega arith) up (above_right r (o / 2) c e') in
        subst (λ x. FoundAt r x c) at (halves_found r (o / 2) _ c f).1)
        (cases_eq (o % 2) 0))
        (cases_Bool (is_root (length es) r o))

    -- so each hash is that of its place
    hash_at_left : (r h : ℕ) → InForest (length es) (suc r) h → is_needed (length es) ts (place r (2 * h)) ≡ true
        → Some (hashes r (2 * h)) ≡ digest_at H es r (2 * h)
    hash_at_left r h up n =
        let w = needed_parts (length es) ts r (2 * h) n in
        let e = ap (cover ts r) (sym (sibling_off-left h)) ∙ w.2.1 in
        let f = covered_found (length es - suc r) (suc r) h _ refl up (above_right r h w.2.0 e) in
        let a = (halves_found r h _ w.2.0 f).0 in
        let q = Beside-given r (2 * h) a.0 (subst (λ d. Found d a.0) ((both_right r h w.2.0 (cover ts r (2 * h))).2 w.1) a.2) in
        ap Some q ∙ sym (ap (option_map (digest_of H)) a.1)

    hash_at_right : (r h : ℕ) → InForest (length es) (suc r) h → is_needed (length es) ts (place r (2 * h + 1)) ≡ true
        → Some (hashes r (2 * h + 1)) ≡ digest_at H es r (2 * h + 1)
    hash_at_right r h up n =
        let w = needed_parts (length es) ts r (2 * h + 1) n in
        let e = ap (cover ts r) (sym (sibling_off-right h)) ∙ w.2.1 in
        let f = covered_found (length es - suc r) (suc r) h _ refl up (above_left r h w.2.0 e) in
        let a = (halves_found r h w.2.0 _ f).1 in
        let q = Beside-given r (2 * h + 1) a.0 (subst (λ d. Found d a.0) ((both_left r h w.2.0 (cover ts r (2 * h + 1))).2 w.1) a.2) in
        ap Some q ∙ sym (ap (option_map (digest_of H)) a.1)

    pub hash_at : (r o : ℕ) → InForest (length es) r o → is_needed (length es) ts (place r o) ≡ true → Some (hashes r o) ≡ digest_at H es r o
    hash_at r o h n =
        let up = InForest-up (length es) r o h (needed_parts (length es) ts r o n).0 in
        ⊎_elim
        (λ even.
        let at : 2 * (o / 2) ≡ o = omega (arith, even) in
        let n' : is_needed (length es) ts (place r (2 * (o / 2))) ≡ true = ap (λ x. is_needed (length es) ts (place r x)) at ∙ n in
        subst (λ x. Some (hashes r x) ≡ digest_at H es r x) at (hash_at_left r (o / 2) up n'))
        (λ odd.
        let at : 2 * (o / 2) + 1 ≡ o = omega (arith, odd) in
        let n' : is_needed (length es) ts (place r (2 * (o / 2) + 1)) ≡ true = ap (λ x. is_needed (length es) ts (place r x)) at ∙ n in
        subst (λ x. Some (hashes r x) ≡ digest_at H es r x) at (hash_at_right r (o / 2) up n'))
        (cases_eq (o % 2) 0)

    pub leaves_right : length xs ≡ length ts
        → AllZip (λ p x. (i : ℕ) × (d : Digest) × (tree_at es p.row p.off ≡ Some (leaf i d)) × (text_of i ≡ x)) ts xs
    leaves_right n =
        zip_from (λ p x. (i : ℕ) × (d : Digest) × (tree_at es p.row p.off ≡ Some (leaf i d)) × (text_of i ≡ x)) [] ts xs shape.distinct n
        (λ r o it.
        let f = covered_found (length es - r) r o (target r o) refl (shape.within (place r o) it) (cover-target ts r o it) in
        let w = Beside-target r o f.0 f.2 in
        (w.0, w.1, f.1 ∙ ap Some w.2, w.3))

-- the digests of texts, beside places
pub leaves_are : {R : Type 0} (H : List ℕ → Digest) (text : R → List ℕ) (ts : List Place) (rs : List R) (r o : ℕ)
    → beside (H []) ts (map (λ x. H (text x)) rs) r o ≡ H (beside [] ts (map text rs) r o)
leaves_are H text [] rs r o = refl
leaves_are H text (t ∷ ts) [] r o = refl
leaves_are H text (t ∷ ts) (x ∷ rs) r o = ⊎_elim (λ e. rw e refl) (λ e. rw e (leaves_are H text ts rs r o)) (cases_Bool (is_at r o t))

pub value-same : (H : List ℕ → Digest) (f g hashes : ℕ → ℕ → Digest) → ((r o : ℕ) → f r o ≡ g r o) → (c : Cover)
    → value H f hashes c ≡ value H g hashes c
value-same H f g hashes e (target r o) = e r o
value-same H f g hashes e (given r o) = refl
value-same H f g hashes e (both c d) = ap₂ (pair H) (value-same H f g hashes e c) (value-same H f g hashes e d)

by_recursion : {X : Type 0} (P : X → Type 0) (xs : List X) → All P xs → AllByRecursion P xs
by_recursion P [] h = tt
by_recursion P (x ∷ xs) h = (All-head P x xs h, by_recursion P xs (All-tail P x xs h))

-- for a history of records
module _ {R : Type 0} (H : List ℕ → Digest) (text : R → List ℕ) (long : (x : List ℕ) → length (H x).0 ≡ 32) (fits : R → Type 0) (other : (r : R)
    → fits r → length (text r) ≢ 64) (one_text : (a b : R) → fits a → fits b → text a ≡ text b → a ≡ b) (us : List (Option R))
    (live_fits : (i : ℕ) (r : R) → slice_get us i ≡ Some (Some r) → fits r) where
  abbrev es : List (Option Digest)
  es = entries H text us

  same_length : length es ≡ length us
  same_length = length-map us (option_map (λ r. H (text r)))

  pub entry_texts : (i : ℕ) (d : Digest) → get_or es i None ≡ Some d → (H (text_at text us i) ≡ d) × (length (text_at text us i) ≢ 64)
  entry_texts i d e =
      let w = entry_of H text us i d e in
      (ap H w.shown ∙ sym w.digest, λ n. other w.rec (live_fits i w.rec w.live) (ap length (sym w.shown) ∙ n))

  stands_for : (p : Place) (r : R) (i : ℕ) (d : Digest) → fits r → tree_at es p.row p.off ≡ Some (leaf i d) → text_at text us i ≡ text r
      → IsLiveAt H text us p r
  stands_for p r i d k s e =
      let w = entry_of H text us i d (tree_at-leaves es p.row p.off (leaf i d) s) in
      let same : w.rec ≡ r = one_text w.rec r (live_fits i w.rec w.live) k (sym w.shown ∙ e) in
      record {
        number = i;
        live = w.live ∙ ap (λ x. Some (Some x)) same;
        stands = s ∙ ap (λ x. Some (leaf i x)) (w.digest ∙ ap (λ x. H (text x)) same);
      }

  spends_from : (ts : List Place) (rs : List R) → AllByRecursion fits rs
      → AllZip (λ p x. (i : ℕ) × (d : Digest) × (tree_at es p.row p.off ≡ Some (leaf i d)) × (text_at text us i ≡ x)) ts (map text rs)
      → AllZip (IsLiveAt H text us) ts rs
  spends_from [] [] k z = z
  spends_from [] (r ∷ rs) k z = absurd z
  spends_from (p ∷ ts) [] k z = absurd z
  spends_from (p ∷ ts) (r ∷ rs) k z = (stands_for p r z.0.0 z.0.1 k.0 z.0.2 z.0.3, spends_from ts rs k.1 z.1)

  texts_long : (rs : List R) → AllByRecursion fits rs → All (λ x. length x ≢ 64) (map text rs)
  texts_long [] h k d lt = absurd (omega arith)
  texts_long (r ∷ rs) h zero d lt = other r h.0
  texts_long (r ∷ rs) h (suc k) d lt = texts_long rs h.1 k d (omega arith)

  -- the hashes are those of the places to be shown
  hashes_shown : (ts : List Place) (known : ℕ → ℕ → Option Digest) (hs : List Digest) → length hs ≡ length (asked (length es) ts known) →
      ((r o : ℕ) → InForest (length es) r o → is_needed (length es) ts (place r o) ≡ true
      → Some (hash_of H (length es) ts known hs r o) ≡ digest_at H es r o) →
      map Some hs ≡ map (λ p. digest_at H es p.row p.off) (asked (length es) ts known)
  hashes_shown ts known hs n at =
      map_from Some (λ p. digest_at H es p.row p.off) (H []) (asked (length es) ts known) hs
      (distinct_from_ascending _ (ascending-filter (λ p. is_none (known p.row p.off)) (need (length es) ts) (need_ascending (length es) ts))) n
      (λ r o i.
      let w = filter_had (λ p. is_none (known p.row p.off)) (need (length es) ts) r o i in
      let v = need_had (length es) ts r o w.0 in
      let unknown : known r o ≡ None = none_from (known r o) w.1 in
      ap (λ x. Some (unwrap_or x (beside (H []) (asked (length es) ts known) hs r o))) (sym unknown) ∙ at r o v.0 v.1)
    where
      none_from : (x : Option Digest) → is_none x ≡ true → x ≡ None
      none_from None e = refl
      none_from (Some d) e = absurd (false≢true e)

  hash_of_long : (ts : List Place) (known : ℕ → ℕ → Option Digest) (hs : List Digest)
      → ((r o : ℕ) (d : Digest) → known r o ≡ Some d → length d.0 ≡ 32) → All (λ d. length d.0 ≡ 32) hs → (r o : ℕ)
      → length (hash_of H (length es) ts known hs r o).0 ≡ 32
  hash_of_long ts known hs known_long hs_long r o = by_known (known r o) refl
    where
      by_known : (x : Option Digest) → known r o ≡ x → length (unwrap_or x (beside (H []) (asked (length es) ts known) hs r o)).0 ≡ 32
      by_known (Some d) e = known_long r o d e
      by_known None e = beside_long (H []) (asked (length es) ts known) hs r o (long []) hs_long

  -- what is accepted is right, where each slot with targets is found
  pub right_from_found : (ts : List Place) (known : ℕ → ℕ → Option Digest) (rs : List R) (hs : List Digest) → All fits rs →
      IsAccepted H (length es) (root H es) ts known (map (λ r. H (text r)) rs) hs →
      ((row : ℕ) (c : Cover) → is_slot (length es) row ≡ true → cover ts row (root_off (length es) row) ≡ Some c →
      (t : Tree) × (tree_at es row (root_off (length es) row) ≡ Some t)
      × IsFound H (text_at text us) (beside [] ts (map text rs)) (hash_of H (length es) ts known hs) c t) →
      IsRight H text us ts known rs hs
  right_from_found ts known rs hs all_fit acc found =
      let rs_fit = by_recursion fits rs all_fit in
      let xs = map text rs in
      let hashes = hash_of H (length es) ts known hs in
      let n : length xs ≡ length ts = length-map rs text ∙ sym (length-map rs (λ r. H (text r))) ∙ acc.one_leaf_each in
      record {
        spends = spends_from ts rs rs_fit (leaves_right H es (text_at text us) ts xs hashes acc.shape found n);
        shown = subst (λ m. map Some hs ≡ map (λ p. digest_at H es p.row p.off) (asked m ts known)) same_length
            (hashes_shown ts known hs acc.one_hash_each (hash_at H es (text_at text us) ts xs hashes acc.shape found));
      }

  -- what is accepted is right, or two texts clash
  pub right_or_clash : (ts : List Place) (known : ℕ → ℕ → Option Digest) (rs : List R) (hs : List Digest)
      → ((r o : ℕ) (d : Digest) → known r o ≡ Some d → length d.0 ≡ 32) → All (λ d. length d.0 ≡ 32) hs → All fits rs
      → IsAccepted H (length us) (root H es) ts known (map (λ r. H (text r)) rs) hs → IsRight H text us ts known rs hs
      ⊎ HasClash H text us ts known rs hs
  right_or_clash ts known rs hs known_long hs_long all_fit given_acc =
      let rs_fit = by_recursion fits rs all_fit in
      let acc = subst (λ m. IsAccepted H m (root H es) ts known (map (λ r. H (text r)) rs) hs) (sym same_length) given_acc in
      let xs = map text rs in
      let hashes = hash_of H (length es) ts known hs in
      let hash_long = hash_of_long ts known hs known_long hs_long in
      let xs_long : All (λ x. length x ≢ 64) xs = texts_long rs rs_fit in
      let agrees = λ (row : ℕ) (c : Cover) (slot : is_slot (length es) row ≡ true) (e : cover ts row (root_off (length es) row) ≡ Some c).
      acc.agrees row c slot e ∙ ap Some (value-same H (beside (H []) ts (map (λ r. H (text r)) rs)) (λ r o. H (beside [] ts xs r o)) hashes
      (leaves_are H text ts rs) c) in
      ⊎_elim
      (λ f.
      let found = λ (row : ℕ) (c : Cover) (slot : is_slot (length es) row ≡ true) (e : cover ts row (root_off (length es) row) ≡ Some c).
      f row c (row_below (length es) row (root_off (length es) row) (InForest-root (length es) row _ (is_root-root_off (length es) row slot))) slot
      e in
      inl (right_from_found ts known rs hs all_fit acc found))
      (λ x. inr record {
        first = x.clash.first;
        second = x.clash.second;
        of_forest = record {
          row = x.row;
          tree = x.tree;
          slot = ap (λ m. is_slot m x.row) (sym same_length) ∙ x.slot;
          of_slot = subst (λ m. content es x.row (root_off m x.row) ≡ Some x.tree) same_length x.of_tree;
          listed = x.clash.of_tree;
        };
        of_proof = record {
          row = x.row;
          covered = x.covered;
          slot = ap (λ m. is_slot m x.row) (sym same_length) ∙ x.slot;
          of_slot = subst (λ m. cover ts x.row (root_off m x.row) ≡ Some x.covered) same_length x.of_cover;
          listed = subst (λ m. Contains (value_texts H (beside [] ts xs) (hash_of H m ts known hs) x.covered) x.clash.second) same_length
              x.clash.of_cover;
        };
        differ = x.clash.differ;
        same_digest = x.clash.same_digest;
      })
      (slots_found H es (text_at text us) ts xs hashes long hash_long xs_long entry_texts agrees (length es))
