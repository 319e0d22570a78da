-- The siblings that are needed.
use Rattle.std.proofs.Common.{◌≡◌, ℕ, zero, suc, ◌+◌, ◌-◌, ◌*◌, ◌/◌, ◌%◌, ◌<◌, true, false, ◌||◌, List, [], ◌∷◌, ◌++◌, length, get_or, take}
use Rattle.std.proofs.Common.{filter_map, Option, Some, None, is_some, refl, sym, ap, ◌∙◌, subst, ap₂, ⊎_elim, inl, inr, arith, eq-eqb, eqb-true}
use Rattle.std.specs.Prelude.{◌⊎◌, ◌==◌}
use Rattle.std.specs.List.{cons_option}
use Rattle.std.specs.List.Sorted.{IsNonDecreasing, IsStrictlyIncreasing, IsPermutation}
use Rattle.std.proofs.lemmas.List.Sorted.{list_any-IsPermutation, IsPermutation-refl}
use Rattle.std.proofs.lemmas.List.Folds.{list_any_at}
use Rattle.std.proofs.lemmas.Bool.{cases_Bool, cases_lt, cases_eq, cases_order, false≢true, or_cases, or_left, or_right, or_parts}
use Rattle.std.proofs.lemmas.Option.{none-some, same_Some}
use Rattle.std.proofs.lemmas.List.{take_more, append-nil, length-append, length-map}
use Rattle.std.proofs.lemmas.List.Elements.{filter_map-append}
use Rattle.forest_place.specs.declared.place.Place.{Place}
use Rattle.forest_place.specs.Forest.{InForest, is_root, sibling_off}
use Rattle.forest_place.specs.Places.{is_at, has_place, IsBefore, IsAscending, AreWithin, place_in, IsNear, up}
use Rattle.forest_place.proofs.Parts.{InForest-left, InForest-right, not_root-left, not_root-right, double_half, double_half_odd}
use Rattle.forest_place.proofs.Siblings.{sibling_cases, sibling_twice, sibling_within, sibling_no_root}
use Rattle.forest_place.proofs.Listed.{same_Bools, place, same_from_is_at, has_first, within_rest}
use Rattle.forest_place.proofs.Ascending.{same_ascending}
use Rattle.forest_place.proofs.Positions.{position_order}
use Rattle.forest_place.specs.Position.{positions_of}
use Rattle.forest_model.specs.Cover.{Cover, cover, cover_of_halves, is_needed, need}
use Rattle.forest_model.proofs.Covers.{needed_parts}
use Rattle.forest_model.proofs.Lists.{need_has, need_had, need_ascending}
use Rattle.proof_shape.specs.Shape.{has_number}
use Rattle.proof_shape.specs.Swept.{ArePositions, IsSwept}
use Rattle.proof_shape.proofs.Ordered.{has_at, has_where, number_is, sorted_number_is, sorted_from_rising}
use Rattle.proof_shape.specs.Survey.{IsCoverOf, pos, is_top, has, Rises, needed_beside, needed_of}
use Rattle.proof_shape.specs.Moves.{CoversTell}
use Rattle.proof_shape.proofs.Longer.{place_where}
use Rattle.proof_shape.proofs.Faulty.{position_at}

abbrev pub beside : Place → Place
beside p = place p.row (sibling_off p.off)

-- a place right beside another in the forest is right beside it in the list
pub near_from_has : (n : ℕ) (cs : List Place) (m : ℕ) → Rises n cs → m < length cs → has cs (beside (place_in cs m)) ≡ true
    → IsNear cs m (beside (place_in cs m))
near_from_has n cs m rises lm h =
    let p = place_in cs m in
    let w = place_where cs p.row (sibling_off p.off) h in
    let at : pos n (place_in cs w.0) ≡ pos n (beside p) = ap (pos n) w.2 in
    let one : (pos n (place_in cs w.0) ≡ pos n p + 1) ⊎ (pos n (place_in cs w.0) + 1 ≡ pos n p) =
    ⊎_elim (λ a. inl (omega (arith, at, a))) (λ a. inr (omega (arith, at, a))) (sibling_cases p.off) in
    ⊎_elim
    (λ same. let e = ap (λ x. pos n (place_in cs x)) same in let z : ⊥ = ⊎_elim (λ a. omega (arith, a, e)) (λ a. omega (arith, a, e)) one in absurd z)
    (⊎_elim
    (λ lt.
    let first = rises w.0 m lt lm in
    let exact : w.0 ≡ m - 1 = ⊎_elim
    (λ between.
    let a = rises w.0 (m - 1) between (omega arith) in
    let b = rises (m - 1) m (omega arith) lm in
    let z : ⊥ = ⊎_elim (λ o. omega (arith, o, first)) (λ o. omega (arith, o, a, b)) one in absurd z)
    (λ ge. omega (arith, ge, lt)) (cases_lt w.0 (m - 1)) in
    inl (omega (arith, lt), ap (place_in cs) (sym exact) ∙ w.2))
    (λ gt.
    let first = rises m w.0 gt w.1 in
    let exact : w.0 ≡ suc m = ⊎_elim
    (λ between.
    let a = rises m (suc m) (omega arith) (omega (arith, between, w.1)) in
    let b = rises (suc m) w.0 between w.1 in
    let z : ⊥ = ⊎_elim (λ o. omega (arith, o, a, b)) (λ o. omega (arith, o, first)) one in absurd z)
    (λ ge. omega (arith, ge, gt)) (cases_lt (suc m) w.0) in
    inr (omega (arith, exact, w.1), ap (place_in cs) (sym exact) ∙ w.2)))
    (cases_order w.0 m)

pub has_from_near : (cs : List Place) (m : ℕ) (p : Place) → m < length cs → IsNear cs m p → has cs p ≡ true
has_from_near cs m p lm near =
    ⊎_elim
    (λ a. subst (λ (x : Place). has cs x ≡ true) a.1 (has_at cs (m - 1) (record { row = 0; off = 0 }) (omega (arith, lm))))
    (λ b. subst (λ (x : Place). has cs x ≡ true) b.1 (has_at cs (suc m) (record { row = 0; off = 0 }) b.0))
    near

-- what a filter by options keeps, up to one index more
kept_more : (f : Place → Option Place) (xs : List Place) (i : ℕ) (d : Place) → i < length xs
    → filter_map f (take (i + 1) xs) ≡ filter_map f (take i xs) ++ cons_option (f (get_or xs i d)) []
kept_more f xs i d h = ap (filter_map f) (take_more xs i d h) ∙ filter_map-append f (take i xs) (get_or xs i d ∷ [])

pub kept_some : (f : Place → Option Place) (xs : List Place) (i : ℕ) (d : Place) (old new : List Place) (p : Place) → i < length xs
    → old ≡ filter_map f (take i xs) → f (get_or xs i d) ≡ Some p → new ≡ old ++ p ∷ [] → new ≡ filter_map f (take (i + 1) xs)
kept_some f xs i d old new p h e g m = m
    ∙ (ap (λ l. l ++ p ∷ []) e ∙ (ap (λ o. filter_map f (take i xs) ++ cons_option o []) (sym g) ∙ sym (kept_more f xs i d h)))

pub kept_none : (f : Place → Option Place) (xs : List Place) (i : ℕ) (d : Place) (old : List Place) → i < length xs → old ≡ filter_map f (take i xs)
    → f (get_or xs i d) ≡ None → old ≡ filter_map f (take (i + 1) xs)
kept_none f xs i d old h e g = e ∙ (sym (append-nil (filter_map f (take i xs)))
    ∙ (ap (λ o. filter_map f (take i xs) ++ cons_option o []) (sym g) ∙ sym (kept_more f xs i d h)))

-- and how many that are
counted_more : (f : Place → Option Place) (xs : List Place) (i : ℕ) (d : Place) (old : ℕ) → i < length xs → old ≡ length (filter_map f (take i xs))
    → length (filter_map f (take (i + 1) xs)) ≡ old + length (cons_option (f (get_or xs i d)) [])
counted_more f xs i d old h e =
    ap length (kept_more f xs i d h) ∙ (length-append (filter_map f (take i xs)) (cons_option (f (get_or xs i d)) [])
    ∙ ap (λ k. k + length (cons_option (f (get_or xs i d)) [])) (sym e))

pub counted_some : (f : Place → Option Place) (xs : List Place) (i : ℕ) (d : Place) (old : ℕ) → i < length xs
    → old ≡ length (filter_map f (take i xs)) → is_some (f (get_or xs i d)) ≡ true → old + 1 ≡ length (filter_map f (take (i + 1) xs))
counted_some f xs i d old h e some =
    let more = counted_more f xs i d old h e in
    let last = one (f (get_or xs i d)) some in
    omega (arith, more, last)
  where
    one : (o : Option Place) → is_some o ≡ true → length (cons_option o []) ≡ 1
    one (Some p) e = refl
    one None e = absurd (false≢true e)

pub counted_none : (f : Place → Option Place) (xs : List Place) (i : ℕ) (d : Place) (old : ℕ) → i < length xs
    → old ≡ length (filter_map f (take i xs)) → is_some (f (get_or xs i d)) ≡ false → old ≡ length (filter_map f (take (i + 1) xs))
counted_none f xs i d old h e none =
    let more = counted_more f xs i d old h e in
    let last = empty (f (get_or xs i d)) none in
    omega (arith, more, last)
  where
    empty : (o : Option Place) → is_some o ≡ false → length (cons_option o []) ≡ 0
    empty (Some p) e = absurd (false≢true (sym e))
    empty None e = refl

-- places whose positions rise ascend
pub ascending_from_rises : (n : ℕ) (cs : List Place) → AreWithin n cs → Rises n cs → IsAscending cs
ascending_from_rises n [] h rises = tt
ascending_from_rises n (p ∷ ps) h rises = (
  (λ q i.
      let w = place_where ps q.row q.off i in
      let lt : pos n p < pos n (place_in ps w.0) = rises 0 (suc w.0) (omega arith) (omega (arith, w.1)) in
      let lt' : pos n p < pos n q = subst (λ (x : Place). pos n p < pos n x) w.2 lt in
      (position_order n p q (h p.row p.off (has_first p ps)) (within_rest n p ps h q.row q.off i)).1 lt'),
  ascending_from_rises n ps (within_rest n p ps h) (λ a b lt l. rises (suc a) (suc b) (omega arith) (omega arith)),
)

-- what a filter by options has
filter_map_has : (f : Place → Option Place) (os : List Place) (o p : Place) → has os o ≡ true → f o ≡ Some p → has (filter_map f os) p ≡ true
filter_map_has f [] o p h e = absurd (false≢true h)
filter_map_has f (x ∷ os) o p h e =
    ⊎_elim
    (λ here. let same : x ≡ o = same_from_is_at o.row o.off x here in let g : f x ≡ Some p = ap f same ∙ e in rw g (has_first p (filter_map f os)))
    (λ there. behind (f x) (filter_map_has f os o p there e))
    (or_cases (is_at o.row o.off x) (has os o) h)
  where
    behind : (y : Option Place) → has (filter_map f os) p ≡ true → has (cons_option y (filter_map f os)) p ≡ true
    behind None i = i
    behind (Some z) i = or_right (is_at p.row p.off z) (has (filter_map f os) p) i

filter_map_had : (f : Place → Option Place) (os : List Place) (q : Place) → has (filter_map f os) q ≡ true → (o : Place) × (has os o ≡ true)
    × (f o ≡ Some q)
filter_map_had f [] q h = absurd (false≢true h)
filter_map_had f (x ∷ os) q h = by_first (f x) refl h (filter_map_had f os q)
  where
    by_first : (y : Option Place) → f x ≡ y → has (cons_option y (filter_map f os)) q ≡ true
        → (has (filter_map f os) q ≡ true → (o : Place) × (has os o ≡ true) × (f o ≡ Some q)) → (o : Place) × (has (x ∷ os) o ≡ true) × (f o ≡ Some q)
    by_first None e i rest = let w = rest i in (w.0, or_right (is_at w.0.row w.0.off x) (has os w.0) w.1, w.2)
    by_first (Some z) e i rest =
        ⊎_elim
        (λ here. (x, has_first x os, e ∙ ap Some (same_from_is_at q.row q.off z here)))
        (λ there. let w = rest there in (w.0, or_right (is_at w.0.row w.0.off x) (has os w.0) w.1, w.2))
        (or_cases (is_at q.row q.off z) (has (filter_map f os) q) i)

-- what `needed_beside` gives
pub beside_some : (n : ℕ) (cs : List Place) (p q : Place) → needed_beside n cs p ≡ Some q → (is_top n p ≡ false) × (has cs (beside p) ≡ false)
    × (q ≡ beside p)
beside_some n cs p q e =
    ⊎_elim
    (λ (t : (is_top n p || has_place cs p.row (sibling_off p.off)) ≡ true). absurd (none-some q (rw t at e)))
    (λ (f : (is_top n p || has_place cs p.row (sibling_off p.off)) ≡ false). let w =
    or_parts (is_top n p) (has_place cs p.row (sibling_off p.off)) f in (w.0, w.1, sym (same_Some _ _ (rw f at e))))
    (cases_Bool (is_top n p || has_place cs p.row (sibling_off p.off)))

-- the siblings of ascending places ascend
beside_ascends : (n : ℕ) (cs ps : List Place) → IsAscending ps → ((p : Place) → has ps p ≡ true → has cs p ≡ true)
    → IsAscending (filter_map (needed_beside n cs) ps)
beside_ascends n cs [] h sub = tt
beside_ascends n cs (x ∷ ps) h sub = by_first (needed_beside n cs x) refl
    (beside_ascends n cs ps h.1 (λ p i. sub p (or_right (is_at p.row p.off x) (has ps p) i)))
  where
    by_first : (y : Option Place) → needed_beside n cs x ≡ y → IsAscending (filter_map (needed_beside n cs) ps)
        → IsAscending (cons_option y (filter_map (needed_beside n cs) ps))
    by_first None e rest = rest
    by_first (Some p) e rest = (
      (λ q i.
          let w = filter_map_had (needed_beside n cs) ps q i in
          let a = beside_some n cs x p e in
          let b = beside_some n cs w.0 q w.2 in
          let there : has cs w.0 ≡ true = sub w.0 (or_right (is_at w.0.row w.0.off x) (has ps w.0) w.1) in
          let goes : IsBefore (beside x) (beside w.0) =
          ⊎_elim
          (λ rows. inl rows)
          (λ same.
          let lt = same.1 in
          let apart : sibling_off x.off ≡ w.0.off → ⊥ = λ z. false≢true (sym a.1 ∙ (ap₂ (has_place cs) same.0 z ∙ there)) in
          let below : sibling_off x.off < sibling_off w.0.off =
          ⊎_elim
          (λ c. ⊎_elim (λ d. omega (arith, c, d, lt, apart)) (λ d. omega (arith, c, d, lt, apart)) (sibling_cases w.0.off))
          (λ c. ⊎_elim (λ d. omega (arith, c, d, lt)) (λ d. omega (arith, c, d, lt)) (sibling_cases w.0.off))
          (sibling_cases x.off) in
          inr (same.0, below))
          (h.0 w.0 w.1) in
          subst (λ (z : Place). IsBefore z q) (sym a.2) (subst (IsBefore (beside x)) (sym b.2) goes)),
      rest,
    )

-- a place is covered where it is a target, or one of its children is covered
pub covered_up : (ts : List Place) (r o : ℕ)
    → is_some (cover ts (suc r) o) ≡ (has_place ts (suc r) o || (is_some (cover ts r (2 * o)) || is_some (cover ts r (2 * o + 1))))
covered_up ts r o =
    ⊎_elim (λ it. rw it refl) (λ other. rw other (by_halves (cover ts r (2 * o)) (cover ts r (2 * o + 1)))) (cases_Bool (has_place ts (suc r) o))
  where
    by_halves : (x y : Option Cover) → is_some (cover_of_halves r o x y) ≡ (is_some x || is_some y)
    by_halves None None = refl
    by_halves None (Some d) = refl
    by_halves (Some c) None = refl
    by_halves (Some c) (Some d) = refl

-- what lies above what is covered is covered
pub covered_above : (ts : List Place) (r o : ℕ) → is_some (cover ts r o) ≡ true → is_some (cover ts (suc r) (o / 2)) ≡ true
covered_above ts r o c =
    covered_up ts r (o / 2) ∙ or_right (has_place ts (suc r) (o / 2)) (is_some (cover ts r (2 * (o / 2))) || is_some (cover ts r (2 * (o / 2) + 1)))
    (⊎_elim
    (λ even. let e : 2 * (o / 2) ≡ o = omega (arith, even) in
    or_left (is_some (cover ts r (2 * (o / 2)))) (is_some (cover ts r (2 * (o / 2) + 1))) (ap (λ x. is_some (cover ts r x)) e ∙ c))
    (λ odd. let e : 2 * (o / 2) + 1 ≡ o = omega (arith, odd) in or_right (is_some (cover ts r (2 * (o / 2)))) (is_some (cover ts r (2 * (o / 2) + 1)))
    (ap (λ x. is_some (cover ts r x)) e ∙ c))
    (cases_eq (o % 2) 0))

pub covered_target : (ts : List Place) (r o : ℕ) → has_place ts r o ≡ true → is_some (cover ts r o) ≡ true
covered_target ts zero o h = rw h refl
covered_target ts (suc r) o h = rw h refl

module _ (n : ℕ) (ts : List Place) (xs : List ℕ) (cs : List Place) (within : AreWithin n ts) (s : IsSwept n xs cs) (tied : (q : Place)
    → InForest n q.row q.off → has_number xs (pos n q) ≡ has ts q) where
  -- what the sweep has is covered
  swept_covered : (r o : ℕ) → has_place cs r o ≡ true → is_some (cover ts r o) ≡ true
  swept_covered zero o h =
      ⊎_elim
      (λ num. covered_target ts zero o (sym (tied (place zero o) (s.within zero o h)) ∙ num))
      (λ c. let z : ⊥ = omega (arith, ap (λ (p : Place). p.row) c.3) in absurd z)
      (s.sound (place zero o) h)
  swept_covered (suc r) o h =
      ⊎_elim
      (λ num. covered_target ts (suc r) o (sym (tied (place (suc r) o) (s.within (suc r) o h)) ∙ num))
      (λ c.
      let row : c.0.row ≡ r = omega (arith, ap (λ (p : Place). p.row) c.3) in
      let off : c.0.off / 2 ≡ o = ap (λ (p : Place). p.off) c.3 in
      let below : is_some (cover ts r c.0.off) ≡ true = swept_covered r c.0.off (subst (λ x. has_place cs x c.0.off ≡ true) row c.1) in
      covered_up ts r o ∙ or_right (has_place ts (suc r) o) (is_some (cover ts r (2 * o)) || is_some (cover ts r (2 * o + 1)))
      (⊎_elim
      (λ even. let e : c.0.off ≡ 2 * o = omega (arith, off, even) in
      or_left (is_some (cover ts r (2 * o))) (is_some (cover ts r (2 * o + 1))) (subst (λ x. is_some (cover ts r x) ≡ true) e below))
      (λ odd. let e : c.0.off ≡ 2 * o + 1 = omega (arith, off, odd) in
      or_right (is_some (cover ts r (2 * o))) (is_some (cover ts r (2 * o + 1))) (subst (λ x. is_some (cover ts r x) ≡ true) e below))
      (cases_eq (c.0.off % 2) 0)))
      (s.sound (place (suc r) o) h)

  swept_target : (r o : ℕ) → InForest n r o → has_place ts r o ≡ true → has_place cs r o ≡ true
  swept_target r o h t =
      let w = has_where xs (pos n (place r o)) (tied (place r o) h ∙ t) in
      s.numbers w.0 w.1 (place r o) h (sym w.2)

  swept_above : (r o : ℕ) → is_root n r o ≡ false → has_place cs r o ≡ true → has_place cs (suc r) (o / 2) ≡ true
  swept_above r o other h =
      let w = place_where cs r o h in
      let z = s.closed w.0 w.1 (ap (is_top n) w.2 ∙ other) in
      subst (λ (p : Place). has cs (up p) ≡ true) w.2 z

  covered_swept : (r o : ℕ) → InForest n r o → is_some (cover ts r o) ≡ true → has_place cs r o ≡ true
  covered_swept zero o h c = swept_target zero o h (by_target (cases_Bool (has_place ts zero o)))
    where
      by_target : (has_place ts zero o ≡ true) ⊎ (has_place ts zero o ≡ false) → has_place ts zero o ≡ true
      by_target (inl e) = e
      by_target (inr e) = absurd (false≢true (rw e at c))
  covered_swept (suc r) o h c =
      ⊎_elim
      (λ t. swept_target (suc r) o h t)
      (λ below. ⊎_elim
      (λ left. subst (λ x. has_place cs (suc r) x ≡ true) (double_half o)
      (swept_above r (2 * o) (not_root-left n r o h) (covered_swept r (2 * o) (InForest-left n r o h) left)))
      (λ right. subst (λ x. has_place cs (suc r) x ≡ true) (double_half_odd o)
      (swept_above r (2 * o + 1) (not_root-right n r o h) (covered_swept r (2 * o + 1) (InForest-right n r o h) right)))
      (or_cases (is_some (cover ts r (2 * o))) (is_some (cover ts r (2 * o + 1))) below))
      (or_cases (has_place ts (suc r) o) (is_some (cover ts r (2 * o)) || is_some (cover ts r (2 * o + 1))) (sym (covered_up ts r o) ∙ c))

  pub swept_is : (r o : ℕ) → InForest n r o → has_place cs r o ≡ is_some (cover ts r o)
  swept_is r o h = same_Bools (has_place cs r o) (is_some (cover ts r o)) (swept_covered r o) (covered_swept r o h)

  -- the siblings that a sweep finds are what is needed
  pub needed_is : needed_of n cs ≡ need n ts
  needed_is =
      same_ascending (needed_of n cs) (need n ts)
      (beside_ascends n cs cs (ascending_from_rises n cs s.within s.rises) (λ p i. i))
      (need_ascending n ts)
      (λ r o i.
      let w = filter_map_had (needed_beside n cs) cs (place r o) i in
      let b = beside_some n cs w.0 (place r o) w.2 in
      let here = s.within w.0.row w.0.off w.1 in
      let sib = sibling_within n w.0.row w.0.off here b.0 in
      let no_root = sibling_no_root n w.0.row w.0.off here in
      let uncovered : is_some (cover ts w.0.row (sibling_off w.0.off)) ≡ false = sym (swept_is w.0.row (sibling_off w.0.off) sib) ∙ b.1 in
      let covered : is_some (cover ts w.0.row (sibling_off (sibling_off w.0.off))) ≡ true =
      ap (λ x. is_some (cover ts w.0.row x)) (sibling_twice w.0.off) ∙ (sym (swept_is w.0.row w.0.off here) ∙ w.1) in
      let needed : is_needed n ts (beside w.0) ≡ true = rw (no_root, uncovered, covered) refl in
      subst (λ (p : Place). has (need n ts) p ≡ true) (sym b.2) (need_has n ts w.0.row (sibling_off w.0.off) sib needed))
      (λ r o i.
      let w = need_had n ts r o i in
      let p = needed_parts n ts r o w.1 in
      let sib = sibling_within n r o w.0 p.0 in
      let covered : has_place cs r (sibling_off o) ≡ true = swept_is r (sibling_off o) sib ∙ ap is_some p.2.1 in
      let alone : has_place cs r (sibling_off (sibling_off o)) ≡ false = ap (has_place cs r) (sibling_twice o)
      ∙ (swept_is r o w.0 ∙ ap is_some p.1) in
      let given_back : needed_beside n cs (place r (sibling_off o)) ≡ Some (place r o) =
      rw (sibling_no_root n r o w.0, alone, sibling_twice o) refl in
      filter_map_has (needed_beside n cs) cs (place r (sibling_off o)) (place r o) covered given_back)

-- each of the positions in order is that of a place
pub positions_are : (n : ℕ) (ps : List Place) (ys : List ℕ) → AreWithin n ps → IsPermutation (positions_of n ps) ys → ArePositions n ys
positions_are n ps ys h perm k lt =
    let x = get_or ys k 0 in
    let there : has_number (positions_of n ps) x ≡ true = list_any-IsPermutation (λ y. y == x) (positions_of n ps) ys perm
    ∙ list_any_at (λ y. y == x) ys k 0 lt (eq-eqb x x refl) in
    let w = numbered ps there in
    (w.0, h w.0.row w.0.off w.1, w.2)
  where
    numbered : (qs : List Place) → has_number (positions_of n qs) (get_or ys k 0) ≡ true → (q : Place) × (has qs q ≡ true) × (pos n q ≡ get_or ys k 0)
    numbered [] e = absurd (false≢true e)
    numbered (q ∷ qs) e =
        ⊎_elim
        (λ here. (q, has_first q qs, eqb-true _ _ here))
        (λ there. let w = numbered qs there in (w.0, or_right (is_at w.0.row w.0.off q) (has qs w.0) w.1, w.2))
        (or_cases (pos n q == get_or ys k 0) (has_number (positions_of n qs) (get_or ys k 0)) e)

pub positions_placed : (n : ℕ) (cs : List Place) → AreWithin n cs → ArePositions n (positions_of n cs)
positions_placed n cs within = positions_are n cs (positions_of n cs) within (IsPermutation-refl (positions_of n cs))

-- positions of places that rise ascend without repeats
pub rises_strictly : (n : ℕ) (cs : List Place) → Rises n cs → IsStrictlyIncreasing (positions_of n cs)
rises_strictly n cs rises k lt =
    let long : k + 1 < length cs = omega (arith, lt, length-map cs (pos n)) in
    let at = position_at n cs k (omega (arith, long)) in
    let next = position_at n cs (k + 1) long in
    let z = rises k (k + 1) (omega arith) long in
    omega (arith, at, next, z)

-- and do not fall
pub rises_sorted : (n : ℕ) (cs : List Place) → Rises n cs → IsNonDecreasing (positions_of n cs)
rises_sorted n cs rises = sorted_from_rising (positions_of n cs) (rises_strictly n cs rises)

-- a sweep over the positions of places gives their cover
pub cover_from_sweep : (n : ℕ) (ps : List Place) (ys : List ℕ) (cs : List Place) → AreWithin n ps → IsPermutation (positions_of n ps) ys
    → IsSwept n ys cs → IsCoverOf n ps cs
cover_from_sweep n ps ys cs h perm s =
    let tied : (q : Place) → InForest n q.row q.off → has_number ys (pos n q) ≡ has ps q = λ q i. sorted_number_is n ps ys q h perm i in
    record {
      within = s.within;
      rises = s.rises;
      covered = λ q i. swept_is n ps ys cs h s tied q.row q.off i;
      needed = needed_is n ps ys cs h s tied;
    }

pub positions_tell : (n : ℕ) (ts cs : List Place) → IsCoverOf n ts cs → CoversTell n ts (positions_of n cs)
positions_tell n ts cs c q i = number_is n cs q c.within i ∙ c.covered q i
