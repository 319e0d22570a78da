-- Which places become known by an addition: those at which old ones go, and from one row up all that it shows.
use Rattle.std.proofs.Common.{◌≡◌, ℕ, zero, suc, ◌+◌, ◌-◌, ◌*◌, ◌/◌, ◌%◌, ◌^◌, ◌<◌, Bool, true, false, ◌||◌, List, [], ◌∷◌, ◌++◌, length, Option}
use Rattle.std.proofs.Common.{Some, None, is_some, is_none, refl, sym, ap, ◌∙◌, subst, ap₂, ⊎_elim, inl, inr, arith, All, eq-eqb}
use Rattle.std.specs.Prelude.{◌⊎◌, ◌==◌, option_map}
use Rattle.std.specs.List.{cons_option}
use Rattle.std.proofs.lemmas.Bool.{false≢true, true≢false, or_cases, or_left, or_right, and_from, eqb-false}
use Rattle.std.proofs.lemmas.List.Elements.{All-cons, All-nil}
use Rattle.std.proofs.lemmas.Option.{none-some, same_Some}
use Rattle.std.proofs.Math.Bool.{or-false}
use Rattle.uo_digest.specs.declared.digest.Digest.{Digest}
use Rattle.forest_place.specs.declared.place.Place.{Place}
use Rattle.forest_model.specs.Content.{Tree, inner, content, digest_of}
use Rattle.forest_place.specs.Forest.{InForest, is_root, is_slot, root_off, sibling_off}
use Rattle.forest_place.specs.Places.{child}
use Rattle.forest_model.specs.Standing.{half, tree_at, digest_at, root}
use Rattle.forest_model.specs.Cover.{cover}
use Rattle.forest_model.specs.Addition.{all_slots, carried_digest, carried_place}
use Rattle.forest_place.proofs.Parts.{InForest-up, not_root-left, not_root-right, is_root-root_off}
use Rattle.forest_model.proofs.Climbs.{tree_at-root, tree_at-forest, tree_at-left, tree_at-right, tree_at-up, inner_from_half}
use Rattle.forest_place.proofs.Siblings.{sibling_off-left, sibling_off-right}
use Rattle.forest_model.proofs.Covers.{some_from_test}
use Rattle.forest_place.proofs.Listed.{place, same_Bools}
use Rattle.forest_model.proofs.Unique.{tree_at-rows}
use Rattle.forest_model.proofs.Moving.{child_stands}
use Rattle.forest_model.proofs.Adding.{onto, last_tree, same_length, parts_more}
use Rattle.forest_model.proofs.Carrying.{is_empty, root_tree, carried_stands}
use Rattle.forest_place.proofs.Siblings.{sibling_cases}
use Rattle.cache_model.specs.Cache.{held, look, raised, shown_known, noted, is_root_held, raised_held}
use Rattle.cache_model.specs.Known.{is_known}
use Rattle.cache_model.proofs.Tables.{same_options, look_all}
use Rattle.cache_model.proofs.Known.{has_watched, AreKeptPlaces, known_stands, known_covered, known_beside, stands_covered, IsKnownBy}
use Rattle.cache_model.proofs.Keeping.{watched_places, kept_are}
use Rattle.cache_model.proofs.Deleted.{some_or, or_from_either}
use Rattle.cache_model.proofs.Looking.{look_held, look_known, look_within, look_in, All-weaker}
use Rattle.cache_model.proofs.Raising.{slot_from, raised_stands, raised-left, raised-right}
use Rattle.cache_model.proofs.Adding.{Origin, old, join, carried_on, all_come, child_left, child_right}
use Rattle.cache_model.proofs.Added.{look_behind, look_past, look_first, on, same_empty, carried_right, joined_right, old_raised, raised_from}

-- both halves of a inner are known where one of them has a watched entry
pub children_known : (es : List (Option Digest)) (w : ℕ → Bool) (ps : List Place) → AreKeptPlaces es w ps → (q : Place) (l r : Tree)
    → tree_at es q.row q.off ≡ Some (inner l r) → has_watched w (inner l r) ≡ true →
    (InForest (length es) (child 0 q).row (child 0 q).off × (is_known (length es) ps (child 0 q) ≡ true))
    × (InForest (length es) (child 1 q).row (child 1 q).off × (is_known (length es) ps (child 1 q) ≡ true))
children_known es w ps are q l r s h = at_row q.row refl
  where
    at_row : (row : ℕ) → q.row ≡ row → (InForest (length es) (child 0 q).row (child 0 q).off × (is_known (length es) ps (child 0 q) ≡ true))
        × (InForest (length es) (child 1 q).row (child 1 q).off × (is_known (length es) ps (child 1 q) ≡ true))
    at_row zero e = absurd (tree_at-rows es 0 q.off (inner l r) (subst (λ k. tree_at es k q.off ≡ Some (inner l r)) e s))
    at_row (suc row) e =
        let st = subst (λ k. tree_at es k q.off ≡ Some (inner l r)) e s in
        let up = tree_at-forest es (suc row) q.off (inner l r) st in
        let sl = tree_at-left es row q.off up ∙ ap (half 0) st in
        let sr = tree_at-right es row q.off up ∙ ap (half 1) st in
        let a : child 0 q ≡ place row (2 * q.off) = ap (λ (x : ℕ). child 0 (place x q.off)) e ∙ child_left row q.off in
        let b : child 1 q ≡ place row (2 * q.off + 1) = ap (λ (x : ℕ). child 1 (place x q.off)) e ∙ child_right row q.off in
        let known = λ (x : Place) (y : ℕ) (z : x ≡ place row y) (f : InForest (length es) row y) (k : is_known (length es) ps (place row y) ≡ true).
        let g : InForest (length es) x.row x.off × (is_known (length es) ps x ≡ true) =
        subst (λ (v : Place). InForest (length es) v.row v.off × (is_known (length es) ps v ≡ true)) (sym z) (f, k) in g in (
          known (child 0 q) (2 * q.off) a (tree_at-forest es row (2 * q.off) l sl) (⊎_elim
              (λ t. known_covered (length es) ps row (2 * q.off) (stands_covered es w ps are l row (2 * q.off) sl t))
              (λ t. known_beside (length es) ps row (2 * q.off) (not_root-left (length es) row q.off up)
              (ap (λ x. is_some (cover ps row x)) (sibling_off-left q.off) ∙ stands_covered es w ps are r row (2 * q.off + 1) sr t))
              (or_cases (has_watched w l) (has_watched w r) h)),
          known (child 1 q) (2 * q.off + 1) b (tree_at-forest es row (2 * q.off + 1) r sr) (⊎_elim
              (λ t. known_beside (length es) ps row (2 * q.off + 1) (not_root-right (length es) row q.off up)
              (ap (λ x. is_some (cover ps row x)) (sibling_off-right q.off) ∙ stands_covered es w ps are l row (2 * q.off) sl t))
              (λ t. known_covered (length es) ps row (2 * q.off + 1) (stands_covered es w ps are r row (2 * q.off + 1) sr t))
              (or_cases (has_watched w l) (has_watched w r) h)),
        )

-- what is noted at a row and further up
noted_past : (b : Bool) (x : Place × Digest) (y : Option (Place × Digest)) (xs : List (Place × Digest)) (r o : ℕ) → is_some (look xs r o) ≡ true
    → is_some (look (noted b x y xs) r o) ≡ true
noted_past false x y xs r o h = h
noted_past true x y xs r o h = look_behind x (cons_option y xs) r o (look_past y xs r o h)

noted_all : (P : Place × Digest → Type 0) (b : Bool) (x : Place × Digest) (y : Option (Place × Digest)) (xs : List (Place × Digest))
    → (b ≡ true → P x) → (b ≡ true → (z : Place × Digest) → y ≡ Some z → P z) → All P xs → All P (noted b x y xs)
noted_all P false x y xs f g h = h
noted_all P true x None xs f g h = All-cons P x xs (f refl) h
noted_all P true x (Some z) xs f g h = All-cons P x (z ∷ xs) (f refl) (All-cons P z xs (g refl z refl) h)

module _ (H : List ℕ → Digest) (es : List (Option Digest)) (d : Digest) (w : ℕ → Bool) where
  -- whether the root of a slot has a watched entry
  abbrev pub root_watched : Option Tree → Bool
  root_watched None = false
  root_watched (Some t) = has_watched w t

  abbrev pub watched : ℕ → Bool
  watched row = root_watched (root_tree es d row)

  abbrev pub new : List (Option Digest)
  new = es ++ Some d ∷ []

  abbrev pub at_place : ℕ → ℕ → Place
  at_place k row = on H (root H es) d (length es) k row

  last_watched : (row : ℕ) → has_watched w (last_tree es d (suc row)) ≡ (has_watched w (last_tree es d row) || watched row)
  unfolding last_tree onto
  last_watched row = by_root (content es row (root_off (length es) row))
    where
      by_root : (x : Option Tree) → has_watched w (onto es d x (last_tree es d row)) ≡ (has_watched w (last_tree es d row) || root_watched x)
      by_root None = sym (or-false (has_watched w (last_tree es d row)))
      by_root (Some l) = swapped (has_watched w l) (has_watched w (last_tree es d row))
        where
          swapped : (a b : Bool) → (a || b) ≡ (b || a)
          swapped true true = refl
          swapped true false = refl
          swapped false true = refl
          swapped false false = refl

  last_watched_zero : has_watched w (last_tree es d zero) ≡ w (length es)
  unfolding last_tree
  last_watched_zero = refl

  -- a root that is joined, and what it is joined with, are the halves of what is carried further
  last_fork : (row : ℕ) (l : Tree) → root_tree es d row ≡ Some l → last_tree es d (suc row) ≡ inner l (last_tree es d row)
  unfolding last_tree onto
  last_fork row l e = rw e refl

  abbrev pub table_of : Bool → ℕ → ℕ → List (Place × Digest)
  table_of c k row = shown_known H (root H es) d (length es) watched c k row

  -- what is known by an addition, and right
  abbrev pub IsNew : Place × Digest → Type 0
  IsNew x = InForest (length new) x.0.row x.0.off
      × ((is_known (length new) (watched_places new w) x.0 ≡ true) × (digest_at H new x.0.row x.0.off ≡ Some x.1))

  carried_stands_at : (k row : ℕ) → all_slots (length es) (row + k) ≡ true → is_slot (length es) (row + k) ≡ false
      → tree_at new (at_place k row).row (at_place k row).off ≡ Some (last_tree es d row)
  carried_stands_at k row a f = ap (λ e. tree_at new (carried_place e (length es) k row).row (carried_place e (length es) k row).off)
      (sym (same_empty H es d)) ∙ carried_stands es d k row a f

  carried_known : (k row : ℕ) → all_slots (length es) (row + k) ≡ true → is_slot (length es) (row + k) ≡ false
      → has_watched w (last_tree es d row) ≡ true → is_known (length new) (watched_places new w) (at_place k row) ≡ true
  carried_known k row a f h =
      known_covered (length new) (watched_places new w) (at_place k row).row (at_place k row).off
      (stands_covered new w (watched_places new w) (kept_are new w) (last_tree es d row) (at_place k row).row (at_place k row).off
      (carried_stands_at k row a f) h)

  empty_from : (row : ℕ) (x : Option Tree) → root_tree es d row ≡ x → is_none (root H es row) ≡ is_none x
  empty_from row None e = ap (λ y. is_none (option_map (digest_of H) y)) e
  empty_from row (Some t) e = ap (λ y. is_none (option_map (digest_of H) y)) e

  -- beneath the first free row, what is carried stands at the right of a root that is not empty
  right_of : (k row : ℕ) (l : Tree) → root_tree es d row ≡ Some l → at_place (suc k) row ≡ child 1 (at_place k (suc row))
  right_of k row l e = let z = empty_from row (Some l) e in rw z refl

  same_as : (k row : ℕ) → root_tree es d row ≡ None → at_place (suc k) row ≡ at_place k (suc row)
  same_as k row e = let z = empty_from row None e in rw z refl

  joined_known : (k row : ℕ) (l : Tree) → all_slots (length es) (suc row + k) ≡ true → is_slot (length es) (suc row + k) ≡ false
      → root_tree es d row ≡ Some l → (has_watched w (last_tree es d row) || watched row) ≡ true →
      (InForest (length new) (child 0 (at_place k (suc row))).row (child 0 (at_place k (suc row))).off
      × (is_known (length new) (watched_places new w) (child 0 (at_place k (suc row))) ≡ true))
      × (InForest (length new) (child 1 (at_place k (suc row))).row (child 1 (at_place k (suc row))).off
      × (is_known (length new) (watched_places new w) (child 1 (at_place k (suc row))) ≡ true))
  joined_known k row l a f e h =
      children_known new w (watched_places new w) (kept_are new w) (at_place k (suc row)) l (last_tree es d row)
      (carried_stands_at k (suc row) a f ∙ ap Some (last_fork row l e))
      (ap (has_watched w) (sym (last_fork row l e)) ∙ (last_watched row ∙ h))

  shown_new : (k row : ℕ) (c : Bool) → c ≡ has_watched w (last_tree es d row) → all_slots (length es) (row + k) ≡ true
      → is_slot (length es) (row + k) ≡ false → All IsNew (table_of c k row)
  shown_new zero row c e a f = by_watched c e
    where
      by_watched : (c : Bool) → c ≡ has_watched w (last_tree es d row) → All IsNew (table_of c zero row)
      by_watched false e = All-nil IsNew
      by_watched true e = All-cons IsNew _ [] (
        tree_at-forest new (at_place zero row).row (at_place zero row).off (last_tree es d row)
            (carried_stands_at zero row a f),
        (carried_known zero row a f (sym e), carried_right H es d zero row a f),
      ) (All-nil IsNew)
  shown_new (suc k) row c e a f =
      let z : row + suc k ≡ suc row + k = omega arith in
      let a' = ap (all_slots (length es)) (sym z) ∙ a in
      let f' = ap (is_slot (length es)) (sym z) ∙ f in
      let next : (c || watched row) ≡ has_watched w (last_tree es d (suc row)) = ap (λ b. b || watched row) e ∙ sym (last_watched row) in
      noted_all IsNew (c || watched row) _ _ _
      (λ t. (
        tree_at-forest new (at_place (suc k) row).row (at_place (suc k) row).off (last_tree es d row) (carried_stands_at (suc k) row a f),
        (here a' f' next t (root_tree es d row) refl, carried_right H es d (suc k) row a f),
      ))
      (λ t y g. beside a' f' t y (root_tree es d row) refl g)
      (shown_new k (suc row) (c || watched row) next a' f')
    where
      here : all_slots (length es) (suc row + k) ≡ true → is_slot (length es) (suc row + k) ≡ false
          → (c || watched row) ≡ has_watched w (last_tree es d (suc row)) → (c || watched row) ≡ true → (x : Option Tree) → root_tree es d row ≡ x
          → is_known (length new) (watched_places new w) (at_place (suc k) row) ≡ true
      here a' f' next t None g = ap (is_known (length new) (watched_places new w)) (same_as k row g) ∙ carried_known k (suc row) a' f' (sym next ∙ t)
      here a' f' next t (Some l) g = ap (is_known (length new) (watched_places new w)) (right_of k row l g)
          ∙ (joined_known k row l a' f' g (ap (λ b. b || watched row) (sym e) ∙ t)).1.1

      beside : all_slots (length es) (suc row + k) ≡ true → is_slot (length es) (suc row + k) ≡ false → (c || watched row) ≡ true
          → (y : Place × Digest) (x : Option Tree) → root_tree es d row ≡ x → option_map (λ x. (child 0 (at_place k (suc row)), x)) (root H es row)
          ≡ Some y → IsNew y
      beside a' f' t y None g m = absurd (none-some y
          (ap (λ x. option_map (λ x. (child 0 (at_place k (suc row)), x)) (option_map (digest_of H) x)) (sym g) ∙ m))
      beside a' f' t y (Some l) g m =
          let is : root H es row ≡ Some (digest_of H l) = ap (option_map (digest_of H)) g in
          let same : (child 0 (at_place k (suc row)), digest_of H l) ≡ y =
          same_Some (child 0 (at_place k (suc row)), digest_of H l) y (ap (option_map (λ x. (child 0 (at_place k (suc row)), x))) (sym is) ∙ m) in
          let n = (joined_known k row l a' f' g (ap (λ b. b || watched row) (sym e) ∙ t)).0 in
          let z : row + suc k ≡ suc row + k = omega arith in
          subst IsNew same (n.0, (n.1, joined_right H es d k row (digest_of H l) a f is))

  last_same : (row : ℕ) → root_tree es d row ≡ None → last_tree es d (suc row) ≡ last_tree es d row
  unfolding last_tree onto
  last_same row e = rw e refl

  -- what is carried is shown where it is watched, or what it is joined with
  top_in : (i row j : ℕ) (c : Bool) → c ≡ has_watched w (last_tree es d row) → j ≡ row + i → has_watched w (last_tree es d j) ≡ true
      → is_some (look (table_of c i row) (at_place zero j).row (at_place zero j).off) ≡ true
  top_in zero row j c e f h =
      let z : j ≡ row = omega arith in
      let t : c ≡ true = e ∙ (ap (λ x. has_watched w (last_tree es d x)) (sym z) ∙ h) in
      ap (λ x. is_some (look (table_of c zero row) (at_place zero x).row (at_place zero x).off)) z
      ∙ (ap (λ b. is_some (look (table_of b zero row) (at_place zero row).row (at_place zero row).off)) t
      ∙ look_first (at_place zero row) (carried_digest H (root H es) d row) [])
  top_in (suc i) row j c e f h =
      noted_past (c || watched row) _ _ (table_of (c || watched row) i (suc row)) (at_place zero j).row (at_place zero j).off
      (top_in i (suc row) j (c || watched row) (ap (λ b. b || watched row) e ∙ sym (last_watched row)) (omega arith) h)

  -- the same at a row that is joined, and the root there
  row_in : (i k kk row j : ℕ) (c : Bool) → c ≡ has_watched w (last_tree es d row) → kk ≡ i + suc k → j ≡ row + i
      → (has_watched w (last_tree es d j) || watched j) ≡ true →
      (is_some (look (table_of c kk row) (at_place (suc k) j).row (at_place (suc k) j).off) ≡ true)
      × ((l : Tree) → root_tree es d j ≡ Some l
      → is_some (look (table_of c kk row) (child 0 (at_place k (suc j))).row (child 0 (at_place k (suc j))).off) ≡ true)
  row_in zero k zero row j c e f g h = let z : ⊥ = omega arith in absurd z
  row_in zero k (suc kk) row j c e f g h =
      let a : k ≡ kk = omega arith in
      let b : j ≡ row = omega arith in
      let t : (c || watched row) ≡ true = ap (λ x. x || watched row) e ∙ (ap (λ x. has_watched w (last_tree es d x) || watched x) (sym b) ∙ h) in (
        ap₂ (λ x y. is_some (look (table_of c (suc kk) row) (at_place (suc x) y).row (at_place (suc x) y).off)) a b
            ∙ (ap (λ v. is_some (look (noted v (at_place (suc kk) row, carried_digest H (root H es) d row)
            (option_map (λ x. (child 0 (at_place kk (suc row)), x)) (root H es row)) (table_of (c || watched row) kk (suc row)))
            (at_place (suc kk) row).row (at_place (suc kk) row).off)) t
            ∙ look_first (at_place (suc kk) row) (carried_digest H (root H es) d row) _),
        λ l m.
            let is : root H es row ≡ Some (digest_of H l) = ap (root H es) (sym b) ∙ ap (option_map (digest_of H)) m in
            ap₂ (λ x y. is_some (look (table_of c (suc kk) row) (child 0 (at_place x (suc y))).row (child 0 (at_place x (suc y))).off)) a b
            ∙ (ap₂ (λ v u. is_some (look (noted v (at_place (suc kk) row, carried_digest H (root H es) d row)
            (option_map (λ x. (child 0 (at_place kk (suc row)), x)) u) (table_of (c || watched row) kk (suc row)))
            (child 0 (at_place kk (suc row))).row (child 0 (at_place kk (suc row))).off)) t is
            ∙ look_behind (at_place (suc kk) row, carried_digest H (root H es) d row)
            ((child 0 (at_place kk (suc row)), digest_of H l) ∷ table_of (c || watched row) kk (suc row)) (child 0 (at_place kk (suc row))).row
            (child 0 (at_place kk (suc row))).off (look_first (child 0 (at_place kk (suc row))) (digest_of H l)
            (table_of (c || watched row) kk (suc row)))),
      )
  row_in (suc i) k zero row j c e f g h = let z : ⊥ = omega arith in absurd z
  row_in (suc i) k (suc kk) row j c e f g h =
      let r = row_in i k kk (suc row) j (c || watched row) (ap (λ b. b || watched row) e ∙ sym (last_watched row)) (omega arith) (omega arith) h in (
        noted_past (c || watched row) _ _ (table_of (c || watched row) kk (suc row)) (at_place (suc k) j).row (at_place (suc k) j).off r.0,
        λ l m. noted_past (c || watched row) _ _ (table_of (c || watched row) kk (suc row)) (child 0 (at_place k (suc j))).row
            (child 0 (at_place k (suc j))).off (r.1 l m),
      )

  module _ (m : ℕ) (all : all_slots (length es) m ≡ true) (free : is_slot (length es) m ≡ false) where
    slots_at : (j k : ℕ) → j + k ≡ m → (all_slots (length es) (j + k) ≡ true) × (is_slot (length es) (j + k) ≡ false)
    slots_at j k e = (ap (all_slots (length es)) e ∙ all, ap (is_slot (length es)) e ∙ free)

    abbrev pub news : List (Place × Digest)
    news = table_of (w (length es)) m zero

    abbrev pub IsBy : ℕ → ℕ → Tree → Type 0
    IsBy r o t = IsKnownBy new w (watched_places new w) (kept_are new w) r o t

    -- the last of the rows is a root
    top_root : is_root (length new) m (length es / 2 ^ m) ≡ true
    top_root =
        let n = length es in
        let even : n / 2 ^ m % 2 ≡ 1 → ⊥ = eqb-false _ _ free in
        let more = parts_more n m all in
        ap (λ x. is_root x m (n / 2 ^ m)) (same_length es d)
        ∙ and_from (n / 2 ^ m % 2 == 0) (n / 2 ^ m + 1 == suc n / 2 ^ m) (eq-eqb _ _ (omega (arith, even))) (eq-eqb _ _ (sym more))

    -- the half beside the one at a place, where both stand at the children of a place
    beside_of : (q : Place) (l t s : Tree) (r o : ℕ) → tree_at new q.row q.off ≡ Some (inner l t) → tree_at new r (sibling_off o) ≡ Some s
        → (child 1 q ≡ place r o → s ≡ l) × (child 0 q ≡ place r o → s ≡ t)
    beside_of q l t s r o st sb =
        let c = child_stands new q l t st in (
          λ e. let a : q.row - 1 ≡ r = ap (λ (p : Place). p.row) e in
              let b : 2 * q.off + 1 ≡ o = ap (λ (p : Place). p.off) e in
              let z : sibling_off o ≡ 2 * q.off + 0 = ap sibling_off (sym b)
              ∙ (sibling_off-right q.off ∙ (let y : 2 * q.off ≡ 2 * q.off + 0 = omega arith in y)) in
              same_Some s l (sym sb ∙ (ap₂ (tree_at new) (sym a) z ∙ c.0)),
          λ e. let a : q.row - 1 ≡ r = ap (λ (p : Place). p.row) e in
              let b : 2 * q.off + 0 ≡ o = ap (λ (p : Place). p.off) e in
              let y : 2 * q.off ≡ o = omega arith in
              let z : sibling_off o ≡ 2 * q.off + 1 = ap sibling_off (sym y) ∙ sibling_off-left q.off in
              same_Some s t (sym sb ∙ (ap₂ (tree_at new) (sym a) z ∙ c.1)),
        )

    carried_in : (k j r o : ℕ) (t : Tree) → j + k ≡ m → t ≡ last_tree es d j → at_place k j ≡ place r o → IsBy r o t → is_some (look news r o) ≡ true
    carried_in zero j r o t e f p by =
        let z : j ≡ m = omega arith in
        ⊎_elim
        (λ h. ap (λ (q : Place). is_some (look news q.row q.off)) (sym p)
        ∙ top_in m zero j (w (length es)) (sym last_watched_zero) (omega arith) (ap (has_watched w) (sym f) ∙ h))
        (λ b. let q : place m (length es / 2 ^ m) ≡ place r o = ap (λ x. at_place zero x) (sym z) ∙ p in
        absurd (true≢false (sym top_root ∙ (ap (λ (v : Place). is_root (length new) v.row v.off) q ∙ b.0))))
        by
    carried_in (suc k) j r o t e f p by =
        ⊎_elim
        (λ h. at_row (or_left (has_watched w (last_tree es d j)) (watched j) (ap (has_watched w) (sym f) ∙ h)))
        (λ b. by_root b.0 b.1.0 b.1.1 b.1.2 (root_tree es d j) refl
        (λ q. carried_in k (suc j) r o t (omega arith) (f ∙ sym (last_same j q)) (sym (same_as k j q) ∙ p) by))
        by
      where
        at_row : (has_watched w (last_tree es d j) || watched j) ≡ true → is_some (look news r o) ≡ true
        at_row h = ap (λ (q : Place). is_some (look news q.row q.off)) (sym p)
            ∙ (row_in j k m zero j (w (length es)) (sym last_watched_zero) (omega arith) (omega arith) h).0

        by_root : is_root (length new) r o ≡ false → (s : Tree) → tree_at new r (sibling_off o) ≡ Some s → has_watched w s ≡ true → (x : Option Tree)
            → root_tree es d j ≡ x → (root_tree es d j ≡ None → is_some (look news r o) ≡ true) → is_some (look news r o) ≡ true
        by_root other s sb h None g rest = rest g
        by_root other s sb h (Some l) g rest =
            let a = slots_at (suc j) k (omega arith) in
            let st = carried_stands_at k (suc j) a.0 a.1 ∙ ap Some (last_fork j l g) in
            let same = (beside_of (at_place k (suc j)) l (last_tree es d j) s r o st sb).0 (sym (right_of k j l g) ∙ p) in
            let u : watched j ≡ true = ap root_watched g ∙ (ap (has_watched w) (sym same) ∙ h) in
            at_row (or_right (has_watched w (last_tree es d j)) (watched j) u)

    -- a root that is joined and known is shown
    joined_in : (k j r o : ℕ) (t : Tree) → suc j + k ≡ m → root_tree es d j ≡ Some t → child 0 (at_place k (suc j)) ≡ place r o → IsBy r o t
        → is_some (look news r o) ≡ true
    joined_in k j r o t e g p by =
        let a = slots_at (suc j) k e in
        let st = carried_stands_at k (suc j) a.0 a.1 ∙ ap Some (last_fork j t g) in
        let at_row = λ (h : (has_watched w (last_tree es d j) || watched j) ≡ true).
        ap (λ (q : Place). is_some (look news q.row q.off)) (sym p)
        ∙ (row_in j k m zero j (w (length es)) (sym last_watched_zero) (omega arith) (omega arith) h).1 t g in
        ⊎_elim
        (λ h. at_row (or_right (has_watched w (last_tree es d j)) (watched j) (ap root_watched g ∙ h)))
        (λ b. let same = (beside_of (at_place k (suc j)) t (last_tree es d j) b.1.0 r o st b.1.1).1 p in
        at_row (or_left (has_watched w (last_tree es d j)) (watched j) (ap (has_watched w) (sym same) ∙ b.1.2)))
        by

    abbrev pub olds : List (Place × Digest)
    olds = raised_held (λ r. is_none (root H es r)) (length es) m (held H es (watched_places es w))

    known_in : (r o : ℕ) (t : Tree) → IsBy r o t → Origin es d m w (watched_places es w) r o t → is_some (look_in news olds r o) ≡ true
    known_in r o t by (old r' o' s e b) =
        let k = ⊎_elim
        (λ h. known_covered (length es) (watched_places es w) r' o' (stands_covered es w (watched_places es w) (kept_are es w) t r' o' s h))
        (λ u. b u.1.0 (ap (λ n. is_root n r o) (sym (same_length es d)) ∙ u.0) u.1.1 u.1.2)
        by in
        some_or (look news r o) (look olds r o) (inr (ap (λ (q : Place). is_some (look olds q.row q.off)) (sym e)
        ∙ old_raised H es d w m all free r' o' t s k))
    known_in r o t by (join j k a g p) =
        let q = ap (λ (e : ℕ → Bool). child 0 (carried_place e (length es) k (suc j))) (sym (same_empty H es d)) ∙ p in
        some_or (look news r o) (look olds r o) (inl (joined_in k j r o t a g q by))
    known_in r o t by (carried_on j k a e p) =
        let q = ap (λ (e : ℕ → Bool). carried_place e (length es) k j) (sym (same_empty H es d)) ∙ p in
        some_or (look news r o) (look olds r o) (inl (carried_in k j r o t a e q by))

    -- what was known is known where it goes
    raised_known : (r o : ℕ) (t : Tree) → tree_at es r o ≡ Some t → IsKnownBy es w (watched_places es w) (kept_are es w) r o t → (q : Place)
        → raised (is_empty es d) (length es) m r o ≡ q →
        InForest (length new) q.row q.off × (is_known (length new) (watched_places new w) q ≡ true)
    raised_known r o t s by q e =
        let st : tree_at new q.row q.off ≡ Some t = ap (λ (p : Place). tree_at new p.row p.off) (sym e) ∙ raised_stands es d m all free r o t s in (
          tree_at-forest new q.row q.off t st,
          ⊎_elim
              (λ h. known_covered (length new) (watched_places new w) q.row q.off
              (stands_covered new w (watched_places new w) (kept_are new w) t q.row q.off st h))
              (λ b. beside r o t s b.0 b.1.0 b.1.1 b.1.2 q e)
              by,
        )
      where
        beside : (r o : ℕ) (t : Tree) → tree_at es r o ≡ Some t → is_root (length es) r o ≡ false → (s : Tree) → tree_at es r (sibling_off o) ≡ Some s
            → has_watched w s ≡ true → (q : Place) → raised (is_empty es d) (length es) m r o ≡ q
            → is_known (length new) (watched_places new w) q ≡ true
        beside r o t s other u su h q e =
            let up = InForest-up (length es) r o (tree_at-forest es r o t s) other in
            from_fork (o % 2) (half_beside o) refl (inner_from_half (o % 2) (tree_at es (suc r) (o / 2)) t (sym (tree_at-up es r o up) ∙ s))
          where
            half_beside : (o : ℕ) → ((o % 2 ≡ 0) × (2 * (o / 2) ≡ o) × (sibling_off o ≡ 2 * (o / 2) + 1))
                ⊎ ((o % 2 ≡ 1) × (2 * (o / 2) + 1 ≡ o) × (sibling_off o ≡ 2 * (o / 2)))
            half_beside o = ⊎_elim (λ a. inl (a.0, omega (arith, a), omega (arith, a))) (λ a. inr (a.0, omega (arith, a), omega (arith, a)))
                (sibling_cases o)

            from_fork : (side : ℕ) → ((o % 2 ≡ 0) × (2 * (o / 2) ≡ o) × (sibling_off o ≡ 2 * (o / 2) + 1))
                ⊎ ((o % 2 ≡ 1) × (2 * (o / 2) + 1 ≡ o) × (sibling_off o ≡ 2 * (o / 2))) → o % 2 ≡ side
                → (a : Tree) × (b : Tree) × (tree_at es (suc r) (o / 2) ≡ Some (inner a b)) × (half (o % 2) (Some (inner a b)) ≡ Some t)
                → is_known (length new) (watched_places new w) q ≡ true
            from_fork side cases z f =
                let up = tree_at-forest es (suc r) (o / 2) (inner f.0 f.1) f.2 in
                let Q = raised (is_empty es d) (length es) m (suc r) (o / 2) in
                let st = raised_stands es d m all free (suc r) (o / 2) (inner f.0 f.1) f.2 in
                let c = λ (h' : has_watched w (inner f.0 f.1) ≡ true). children_known new w (watched_places new w) (kept_are new w)
                (raised (is_empty es d) (length es) m (suc r) (o / 2)) f.0 f.1 st h' in
                ⊎_elim
                (λ even.
                let same : u ≡ f.1 = same_Some u f.1 (sym su ∙ (ap (tree_at es r) even.2 ∙ (tree_at-right es r (o / 2) up ∙ ap (half 1) f.2))) in
                let at : q ≡ child 0 (raised (is_empty es d) (length es) m (suc r) (o / 2)) =
                sym e ∙ (ap (raised (is_empty es d) (length es) m r) (sym even.1) ∙ raised-left (is_empty es d) (length es) m r (o / 2) up) in
                ap (is_known (length new) (watched_places new w)) at
                ∙ (c (or_right (has_watched w f.0) (has_watched w f.1) (ap (has_watched w) (sym same) ∙ h))).0.1)
                (λ odd.
                let same : u ≡ f.0 = same_Some u f.0 (sym su ∙ (ap (tree_at es r) odd.2 ∙ (tree_at-left es r (o / 2) up ∙ ap (half 0) f.2))) in
                let at : q ≡ child 1 (raised (is_empty es d) (length es) m (suc r) (o / 2)) =
                sym e ∙ (ap (raised (is_empty es d) (length es) m r) (sym odd.1) ∙ raised-right (is_empty es d) (length es) m r (o / 2) up) in
                ap (is_known (length new) (watched_places new w)) at
                ∙ (c (or_left (has_watched w f.0) (has_watched w f.1) (ap (has_watched w) (sym same) ∙ h))).1.1)
                cases

    -- what was held is held where it goes
    pub old_found : (r o : ℕ) (x : Digest) (p : Place) → is_known (length es) (watched_places es w) p ≡ true → digest_at H es p.row p.off ≡ Some x
        → raised (is_empty es d) (length es) m p.row p.off ≡ place r o → look (held H new (watched_places new w)) r o ≡ Some x
    old_found r o x p k g z = by_tree (tree_at es p.row p.off) refl g
      where
        by_tree : (y : Option Tree) → tree_at es p.row p.off ≡ y → option_map (digest_of H) y ≡ Some x
            → look (held H new (watched_places new w)) r o ≡ Some x
        by_tree None s g = absurd (none-some x g)
        by_tree (Some t) s g =
            let v = known_stands es w (watched_places es w) (kept_are es w) p.row p.off (tree_at-forest es p.row p.off t s) k in
            let same : v.0 ≡ t = same_Some v.0 t (sym v.1 ∙ s) in
            let by = subst (IsKnownBy es w (watched_places es w) (kept_are es w) p.row p.off) same v.2 in
            let u = raised_known p.row p.off t s by (place r o) z in
            look_held H new w r o u.0 u.1 ∙ (ap (λ (q : Place). digest_at H new q.row q.off) (sym z)
            ∙ (ap (option_map (digest_of H)) (raised_stands es d m all free p.row p.off t s) ∙ g))

    -- and what is shown is held
    pub news_found : All (λ x. look (held H new (watched_places new w)) x.0.row x.0.off ≡ Some x.1) news
    news_found =
        All-weaker IsNew (λ x. look (held H new (watched_places new w)) x.0.row x.0.off ≡ Some x.1)
        (λ x v. look_held H new w x.0.row x.0.off v.0 v.1.0 ∙ v.1.1) news
        (shown_new m zero (w (length es)) (sym last_watched_zero) (slots_at zero m (omega arith)).0 (slots_at zero m (omega arith)).1)

    -- what is found is known and right
    found_right : (r o : ℕ) (x : Digest) → look_in news olds r o ≡ Some x → look (held H new (watched_places new w)) r o ≡ Some x
    found_right r o x e =
        or_from_either (look news r o) (look olds r o) x
        (λ f. look_all (λ r o x. look (held H new (watched_places new w)) r o ≡ Some x) news r o x news_found f)
        (λ f. let v = raised_from H es d w m all free r o x f in old_found r o x v.0 v.1 v.2 v.3)
        e

    -- what is known after an addition
    pub known_after : (r o : ℕ) → look (held H new (watched_places new w)) r o ≡ look_in news olds r o
    known_after r o =
        same_options (look (held H new (watched_places new w)) r o) (look_in news olds r o)
        (λ x e. was x e)
        (λ x e. found_right r o x e)
      where
        was : (x : Digest) → look (held H new (watched_places new w)) r o ≡ Some x → look_in news olds r o ≡ Some x
        was x e =
            let k = look_known H new w r o x e in
            let h = held_within r o x e in
            let v = known_stands new w (watched_places new w) (kept_are new w) r o h k in
            let u = some_from_test (look_in news olds r o)
            (known_in r o v.0 v.2 (all_come es d m all free w (watched_places es w) (kept_are es w) r o v.0 v.1)) in
            u.1 ∙ (sym (found_right r o u.0 u.1) ∙ e)
          where
            held_within : (r o : ℕ) (x : Digest) → look (held H new (watched_places new w)) r o ≡ Some x → InForest (length new) r o
            held_within r o x e = look_within H new w r o x e

    -- a root is held exactly where it has a watched entry
    pub root_held : (row : ℕ) → row < m → is_root_held (length es) (held H es (watched_places es w)) row ≡ watched row
    root_held row lt =
        let n = length es in
        let off = root_off n row in
        let top = is_root-root_off n row (slot_from n m row all lt) in
        same_Bools (is_some (look (held H es (watched_places es w)) row off)) (watched row)
        (λ h. let x = some_from_test (look (held H es (watched_places es w)) row off) h in
        let v = known_stands es w (watched_places es w) (kept_are es w) row off (look_within H es w row off x.0 x.1)
        (look_known H es w row off x.0 x.1) in
        let g : root_tree es d row ≡ Some v.0 = sym (tree_at-root es row off top) ∙ v.1 in
        ap root_watched g ∙ ⊎_elim (λ t. t) (λ b. absurd (true≢false (sym top ∙ b.0))) v.2)
        (λ h. by_root (root_tree es d row) refl h)
      where
        by_root : (x : Option Tree) → root_tree es d row ≡ x → root_watched x ≡ true
            → is_some (look (held H es (watched_places es w)) row (root_off (length es) row)) ≡ true
        by_root None g h = absurd (false≢true h)
        by_root (Some t) g h =
            let n = length es in
            let off = root_off n row in
            let top = is_root-root_off n row (slot_from n m row all lt) in
            let s = tree_at-root es row off top ∙ g in
            let k = known_covered n (watched_places es w) row off (stands_covered es w (watched_places es w) (kept_are es w) t row off s h) in
            ap is_some (look_held H es w row off (tree_at-forest es row off t s) k ∙ ap (option_map (digest_of H)) s)

-- the same with tests that are the same beneath
pub shown_same : (H : List ℕ → Digest) (roots : ℕ → Option Digest) (d : Digest) (n : ℕ) (f g : ℕ → Bool) (c : Bool) (k row : ℕ)
    → ((j : ℕ) → j < row + k → f j ≡ g j) → shown_known H roots d n f c k row ≡ shown_known H roots d n g c k row
shown_same H roots d n f g c zero row h = refl
shown_same H roots d n f g c (suc k) row h =
    let a = h row (omega arith) in
    let rest = shown_same H roots d n f g (c || g row) k (suc row) (λ j lt. h j (omega arith)) in
    let b : shown_known H roots d n f (c || f row) k (suc row) ≡ shown_known H roots d n g (c || g row) k (suc row) =
    ap (λ v. shown_known H roots d n f (c || v) k (suc row)) a ∙ rest in
    ap₂ (λ v xs. noted (c || v) (carried_place (λ r. is_none (roots r)) n (suc k) row, carried_digest H roots d row)
    (option_map (λ x. (child 0 (carried_place (λ r. is_none (roots r)) n k (suc row)), x)) (roots row)) xs) a b

-- what a cache has after an addition
pub becomes : (H : List ℕ → Digest) (es : List (Option Digest)) (d : Digest) (w : ℕ → Bool) (m : ℕ) → all_slots (length es) m ≡ true
    → is_slot (length es) m ≡ false → (r o : ℕ) →
    look (held H (es ++ Some d ∷ []) (watched_places (es ++ Some d ∷ []) w)) r o
    ≡ look_in (shown_known H (root H es) d (length es) (is_root_held (length es) (held H es (watched_places es w))) (w (length es)) m zero)
    (raised_held (λ r. is_none (root H es r)) (length es) m (held H es (watched_places es w))) r o
becomes H es d w m all free r o =
    known_after H es d w m all free r o
    ∙ ap (λ t. look_in t (raised_held (λ r. is_none (root H es r)) (length es) m (held H es (watched_places es w))) r o)
    (sym (shown_same H (root H es) d (length es) (is_root_held (length es) (held H es (watched_places es w))) (watched H es d w) (w (length es)) m
    zero (λ j lt. root_held H es d w m all free j (omega arith))))

-- what becomes known is held
pub becomes_held : (H : List ℕ → Digest) (es : List (Option Digest)) (d : Digest) (w : ℕ → Bool) (m : ℕ) → all_slots (length es) m ≡ true
    → is_slot (length es) m ≡ false →
    All (λ x. look (held H (es ++ Some d ∷ []) (watched_places (es ++ Some d ∷ []) w)) x.0.row x.0.off ≡ Some x.1)
    (shown_known H (root H es) d (length es) (is_root_held (length es) (held H es (watched_places es w))) (w (length es)) m zero)
becomes_held H es d w m all free =
    subst (All (λ x. look (held H (es ++ Some d ∷ []) (watched_places (es ++ Some d ∷ []) w)) x.0.row x.0.off ≡ Some x.1))
    (sym (shown_same H (root H es) d (length es) (is_root_held (length es) (held H es (watched_places es w))) (watched H es d w) (w (length es)) m
    zero (λ j lt. root_held H es d w m all free j (omega arith))))
    (news_found H es d w m all free)
