-- What is gone, by what is covered and by what is needed.
use Rattle.std.proofs.Common.{◌≡◌, ℕ, zero, suc, ◌+◌, ◌-◌, ◌*◌, ◌/◌, ◌%◌, ◌^◌, ◌<◌, ◌≤◌, length, get_or, [], Bool, true, false, not, ◌&&◌, ◌||◌, List}
use Rattle.std.proofs.Common.{◌∷◌, Option, Some, None, is_some, refl, sym, ap, ◌∙◌, subst, ap₂, ⊎_elim, inl, inr, arith, eq-eqb, eqb-true}
use Rattle.std.specs.Prelude.{◌⊎◌, ◌==◌, nat_lt}
use Rattle.std.proofs.lemmas.Bool.{cases_Bool, cases_eq, cases_lt, false≢true, false_from_ne_true, or_cases, or_left, or_right, or_from, and_from}
use Rattle.std.proofs.lemmas.Bool.{and_parts, lt-ltb, ltb-true}
use Rattle.std.proofs.lemmas.List.Folds.{list_any_at}
use Rattle.std.proofs.Math.Bool.{or-false, and-true}
use Rattle.std.proofs.lemmas.Option.{none-some}
use Rattle.forest_place.specs.declared.place.Place.{Place}
use Rattle.forest_place.specs.Forest.{InForest, is_root, sibling_off}
use Rattle.forest_place.specs.Places.{has_place, AreWithin}
use Rattle.forest_place.proofs.Parts.{parts-suc, half_pow, InForest-up, InForest-left, InForest-right, not_root-left, not_root-right, row_below}
use Rattle.forest_place.proofs.Siblings.{sibling_off-left, sibling_off-right}
use Rattle.forest_place.proofs.Listed.{place, has_first}
use Rattle.forest_model.specs.Cover.{cover, is_needed, need, HasShape, is_above}
use Rattle.forest_model.specs.Deletion.{is_gone, moved, child_place}
use Rattle.forest_model.proofs.Covers.{needed_parts, some_from_test}
use Rattle.forest_model.proofs.Lists.{need_has, need_had}
use Rattle.forest_model.proofs.Moving.{moved-step, moved-is_gone}
use Rattle.forest_model.proofs.Extract.{target_beneath as beneath_cover}
use Rattle.proof_shape.specs.Targeted.{IsBeneathTarget, NoneGonePast, IsGoneAt}
use Rattle.proof_shape.specs.Shape.{has_number}
use Rattle.proof_shape.specs.Moves.{GoneTell, TellGone, HasNeighbours, AreApart, HasAll, CoversTell}
use Rattle.proof_shape.specs.Survey.{pos}
use Rattle.proof_shape.specs.Swept.{ArePositions}
use Rattle.proof_shape.proofs.Ordered.{has_where, sorted_number_is}
use Rattle.forest_place.specs.Position.{position, positions_of}
use Rattle.std.specs.List.Sorted.{IsNonDecreasing, IsPermutation}
use Rattle.proof_shape.proofs.Needing.{covered_up, covered_target}
use Rattle.proof_shape.proofs.Climbing.{nothing_above}
use Rattle.proof_shape.proofs.Parents.{ups, cover_above, above_covered}

-- a target stands at or beneath what is covered
pub target_beneath : (ts : List Place) (r o : ℕ) → is_some (cover ts r o) ≡ true → (q : Place) × (k : ℕ) × (has_place ts q.row q.off ≡ true)
    × (q.row + k ≡ r) × (q.off / 2 ^ k ≡ o)
target_beneath ts r o c = let s = some_from_test (cover ts r o) c in beneath_cover ts r o s.0 s.1

module _ (n : ℕ) (ts : List Place) (shape : HasShape n ts) where
  -- a target has no target beneath
  pub target_bare : (r o : ℕ) → has_place ts (suc r) (o / 2) ≡ true → is_some (cover ts r o) ≡ false
  target_bare r o it =
      false_from_ne_true _ (λ c.
      let w = target_beneath ts r o c in
      let lt : w.0.row < suc r = omega (arith, w.3) in
      let k : suc r - w.0.row ≡ suc w.1 = omega (arith, w.3) in
      let up : w.0.off / 2 ^ (suc r - w.0.row) ≡ o / 2 = ap (λ x. w.0.off / 2 ^ x) k ∙ (parts-suc w.0.off w.1 ∙ ap (λ x. x / 2) w.4) in
      let above : is_above (place (suc r) (o / 2)) w.0 ≡ true =
      and_from (nat_lt w.0.row (suc r)) (w.0.off / 2 ^ (suc r - w.0.row) == o / 2) (lt-ltb _ _ lt) (eq-eqb _ _ up) in
      false≢true (sym (shape.apart (place (suc r) (o / 2)) w.0 it w.2) ∙ above))

  bare_left : (r o : ℕ) → has_place ts (suc r) o ≡ true → is_some (cover ts r (2 * o)) ≡ false
  bare_left r o it = let e : o ≡ (2 * o) / 2 = omega arith in target_bare r (2 * o) (ap (has_place ts (suc r)) (sym e) ∙ it)

  bare_right : (r o : ℕ) → has_place ts (suc r) o ≡ true → is_some (cover ts r (2 * o + 1)) ≡ false
  bare_right r o it = let e : o ≡ (2 * o + 1) / 2 = omega arith in target_bare r (2 * o + 1) (ap (has_place ts (suc r)) (sym e) ∙ it)

-- what is covered is not needed, nor is what has a sibling that is not covered
covered_unneeded : (n : ℕ) (ts : List Place) (r o : ℕ) → is_some (cover ts r o) ≡ true → has_place (need n ts) r o ≡ false
covered_unneeded n ts r o c = false_from_ne_true _ (λ h. let w = needed_parts n ts r o (need_had n ts r o h).1 in
    false≢true (sym (ap is_some w.1) ∙ c))

alone_unneeded : (n : ℕ) (ts : List Place) (r o : ℕ) → is_some (cover ts r (sibling_off o)) ≡ false → has_place (need n ts) r o ≡ false
alone_unneeded n ts r o c = false_from_ne_true _ (λ h. let w = needed_parts n ts r o (need_had n ts r o h).1 in false≢true (sym c ∙ ap is_some w.2.1))

bare_none : (ts : List Place) (r o : ℕ) → is_some (cover ts (suc r) o) ≡ false → (is_some (cover ts r (2 * o)) ≡ false)
    × (is_some (cover ts r (2 * o + 1)) ≡ false)
bare_none ts r o c = (
  false_from_ne_true _ (λ l. false≢true (sym c ∙ (covered_up ts r o
      ∙ or_right (has_place ts (suc r) o) (is_some (cover ts r (2 * o)) || is_some (cover ts r (2 * o + 1)))
      (or_left (is_some (cover ts r (2 * o))) (is_some (cover ts r (2 * o + 1))) l)))),
  false_from_ne_true _ (λ l. false≢true (sym c ∙ (covered_up ts r o
      ∙ or_right (has_place ts (suc r) o) (is_some (cover ts r (2 * o)) || is_some (cover ts r (2 * o + 1)))
      (or_right (is_some (cover ts r (2 * o))) (is_some (cover ts r (2 * o + 1))) l)))),
)

-- nothing is needed at or beneath what is neither covered nor needed
none_needed : (n : ℕ) (ts : List Place) (r o : ℕ) → is_some (cover ts r o) ≡ false → has_place (need n ts) r o ≡ false
    → is_some (cover (need n ts) r o) ≡ false
none_needed n ts zero o c h = rw h refl
none_needed n ts (suc r) o c h =
    let w = bare_none ts r o c in
    let left = none_needed n ts r (2 * o) w.0 (alone_unneeded n ts r (2 * o) (ap (λ x. is_some (cover ts r x)) (sibling_off-left o) ∙ w.1)) in
    let right = none_needed n ts r (2 * o + 1) w.1
    (alone_unneeded n ts r (2 * o + 1) (ap (λ x. is_some (cover ts r x)) (sibling_off-right o) ∙ w.0)) in
    covered_up (need n ts) r o ∙ or_from (has_place (need n ts) (suc r) o) _ h
    (or_from (is_some (cover (need n ts) r (2 * o))) (is_some (cover (need n ts) r (2 * o + 1))) left right)

-- where only one of two siblings is covered, the other is needed
other_needed : (n : ℕ) (ts : List Place) (r o : ℕ) → InForest n r o → is_root n r o ≡ false → is_some (cover ts r o) ≡ false
    → is_some (cover ts r (sibling_off o)) ≡ true → is_some (cover (need n ts) r o) ≡ true
other_needed n ts r o h other c d =
    let needed : is_needed n ts (place r o) ≡ true = rw (other, c, d) refl in
    covered_target (need n ts) r o (need_has n ts r o h needed)

both_bools : (a b : Bool) → (true && not a) && (true && not b) ≡ true && not (false || (a || b))
both_bools true b = refl
both_bools false true = refl
both_bools false false = refl

module _ (n : ℕ) (ts : List Place) (shape : HasShape n ts) where
  -- a place is gone where it is covered, and nothing is needed at or beneath it
  gone_is : (r o : ℕ) → InForest n r o → (is_some (cover ts r o) && not (is_some (cover (need n ts) r o))) ≡ is_gone ts r o
  gone_is zero o h = by_target (cases_Bool (has_place ts zero o))
    where
      by_target : (has_place ts zero o ≡ true) ⊎ (has_place ts zero o ≡ false)
          → (is_some (cover ts zero o) && not (is_some (cover (need n ts) zero o))) ≡ is_gone ts zero o
      by_target (inl it) =
          let un = covered_unneeded n ts zero o (covered_target ts zero o it) in
          rw (it, un) refl
      by_target (inr e) = rw e refl
  gone_is (suc r) o h = by_target (cases_Bool (has_place ts (suc r) o)) (gone_is r (2 * o) (InForest-left n r o h))
      (gone_is r (2 * o + 1) (InForest-right n r o h))
    where
      by_halves : has_place ts (suc r) o ≡ false → (is_some (cover ts r (2 * o)) ≡ true) ⊎ (is_some (cover ts r (2 * o)) ≡ false)
          → (is_some (cover ts r (2 * o + 1)) ≡ true) ⊎ (is_some (cover ts r (2 * o + 1)) ≡ false) →
          ((has_place ts (suc r) o || (is_some (cover ts r (2 * o)) || is_some (cover ts r (2 * o + 1))))
          && not (has_place (need n ts) (suc r) o || (is_some (cover (need n ts) r (2 * o)) || is_some (cover (need n ts) r (2 * o + 1))))) ≡
          ((is_some (cover ts r (2 * o)) && not (is_some (cover (need n ts) r (2 * o))))
          && (is_some (cover ts r (2 * o + 1)) && not (is_some (cover (need n ts) r (2 * o + 1)))))
      by_halves e (inl l) (inl m) =
          let up : is_some (cover ts (suc r) o) ≡ true = covered_up ts r o ∙ rw (e, l) refl in
          let un = covered_unneeded n ts (suc r) o up in
          rw (e, l, m, un) (sym (both_bools (is_some (cover (need n ts) r (2 * o))) (is_some (cover (need n ts) r (2 * o + 1)))))
      by_halves e (inl l) (inr m) =
          let k = other_needed n ts r (2 * o + 1) (InForest-right n r o h) (not_root-right n r o h) m
          (ap (λ x. is_some (cover ts r x)) (sibling_off-right o) ∙ l) in
          rw (e, l, m, k) (third (has_place (need n ts) (suc r) o) (is_some (cover (need n ts) r (2 * o))))
        where
          third : (a b : Bool) → ((false || (true || false)) && not (a || (b || true))) ≡ ((true && not b) && (false && not true))
          third true true = refl
          third true false = refl
          third false true = refl
          third false false = refl
      by_halves e (inr l) (inl m) =
          let k = other_needed n ts r (2 * o) (InForest-left n r o h) (not_root-left n r o h) l
          (ap (λ x. is_some (cover ts r x)) (sibling_off-left o) ∙ m) in
          rw (e, l, m, k) (third (has_place (need n ts) (suc r) o) (is_some (cover (need n ts) r (2 * o + 1))))
        where
          third : (a b : Bool) → ((false || (false || true)) && not (a || (true || b))) ≡ ((false && not true) && (true && not b))
          third true b = refl
          third false b = refl
      by_halves e (inr l) (inr m) = rw (e, l, m) refl

      by_target : (has_place ts (suc r) o ≡ true) ⊎ (has_place ts (suc r) o ≡ false) →
          (is_some (cover ts r (2 * o)) && not (is_some (cover (need n ts) r (2 * o)))) ≡ is_gone ts r (2 * o) →
          (is_some (cover ts r (2 * o + 1)) && not (is_some (cover (need n ts) r (2 * o + 1)))) ≡ is_gone ts r (2 * o + 1) →
          (is_some (cover ts (suc r) o) && not (is_some (cover (need n ts) (suc r) o))) ≡ is_gone ts (suc r) o
      by_target (inl it) left right =
          let c = covered_target ts (suc r) o it in
          let bl = bare_left n ts shape r o it in
          let br = bare_right n ts shape r o it in
          let nl = none_needed n ts r (2 * o) bl (alone_unneeded n ts r (2 * o) (ap (λ x. is_some (cover ts r x)) (sibling_off-left o) ∙ br)) in
          let nr = none_needed n ts r (2 * o + 1) br
          (alone_unneeded n ts r (2 * o + 1) (ap (λ x. is_some (cover ts r x)) (sibling_off-right o) ∙ bl)) in
          let none : is_some (cover (need n ts) (suc r) o) ≡ false = covered_up (need n ts) r o
          ∙ or_from (has_place (need n ts) (suc r) o) _ (covered_unneeded n ts (suc r) o c)
          (or_from (is_some (cover (need n ts) r (2 * o))) (is_some (cover (need n ts) r (2 * o + 1))) nl nr) in
          ap₂ (λ x y. x && not y) c none ∙ sym (or_left (has_place ts (suc r) o) (is_gone ts r (2 * o) && is_gone ts r (2 * o + 1)) it)
      by_target (inr e) left right =
          ap₂ (λ x y. x && not y) (covered_up ts r o) (covered_up (need n ts) r o) ∙
          (by_halves e (cases_Bool (is_some (cover ts r (2 * o)))) (cases_Bool (is_some (cover ts r (2 * o + 1)))) ∙
          (ap₂ (λ x y. x && y) left right ∙ sym (ap (λ x. x || (is_gone ts r (2 * o) && is_gone ts r (2 * o + 1))) e)))

  pub gone_tell : (cs ks : List ℕ) → CoversTell n ts cs → CoversTell n (ups (need n ts)) ks → GoneTell n ts cs ks
  gone_tell cs ks c k r o h =
      ap₂ (λ x y. x && not y) (c (place r o) h) (k (place r o) h) ∙
      (where_covered (is_some (cover ts r o)) _ _ (λ it. cover_above (need n ts) r o (covered_unneeded n ts r o it)) ∙ gone_is r o h)
    where
      where_covered : (a x y : Bool) → (a ≡ true → x ≡ y) → (a && not x) ≡ (a && not y)
      where_covered true x y f = ap not (f refl)
      where_covered false x y f = refl

-- the positions of covered places have those of places above needed ones
pub has_above : (n : ℕ) (ts : List Place) (cs ks : List ℕ) → CoversTell n ts cs → CoversTell n (ups (need n ts)) ks → ArePositions n ks → HasAll cs ks
has_above n ts cs ks c k places x h =
    let w = has_where ks x h in
    let p = places w.0 w.1 in
    let at : pos n p.0 ≡ x = p.2 ∙ w.2 in
    subst (λ y. has_number cs y ≡ true) at (c p.0 p.1
    ∙ above_covered n ts p.0.row p.0.off (sym (k p.0 p.1) ∙ subst (λ y. has_number ks y ≡ true) (sym at) h))

-- ---- where no two targets stand side by side

-- a number that is one more than the one before it
pub neighbours_at : (xs : List ℕ) (k : ℕ) → k + 1 < length xs → get_or xs (k + 1) 0 ≡ suc (get_or xs k 0) → HasNeighbours xs
neighbours_at xs k lt e = (
  get_or xs k 0,
  list_any_at (λ y. y == get_or xs k 0) xs k 0 (omega (arith, lt)) (eq-eqb _ _ refl),
  list_any_at (λ y. y == suc (get_or xs k 0)) xs (k + 1) 0 lt (eq-eqb _ _ e),
)

-- numbers in ascending order of which none is one more than the one before it
pub apart_from : (xs : List ℕ) → IsNonDecreasing xs → ((k : ℕ) → k + 1 < length xs → get_or xs (k + 1) 0 ≡ suc (get_or xs k 0) → ⊥) → AreApart xs
apart_from xs up steps x h =
    false_from_ne_true (has_number xs (suc x)) (λ h'.
    let a = has_where xs x h in
    let b = has_where xs (suc x) h' in
    let le : a.0 ≤ b.0 = not_before a.0 b.0 a.1 a.2 b.2 (cases_lt b.0 a.0) in
    between (b.0 - a.0) a.0 (let e : b.0 < length xs = b.1 in let z : a.0 + (b.0 - a.0) < length xs = omega (arith, e, le) in
    z) a.2 (ap (λ k. get_or xs k 0) (let e : a.0 + (b.0 - a.0) ≡ b.0 = omega (arith, le) in e) ∙ b.2))
  where
    not_before : (a b : ℕ) → a < length xs → get_or xs a 0 ≡ x → get_or xs b 0 ≡ suc x → (b < a) ⊎ (a ≤ b) → a ≤ b
    not_before a b l ea eb (inl lt) = let z = up b a 0 (omega (arith, lt)) l in absurd (omega (arith, z, ea, eb))
    not_before a b l ea eb (inr le) = le

    step : (v : ℕ) → v ≡ x → (w : ℕ) → (w ≡ suc v → ⊥) → v ≤ w → w ≤ suc x → w ≡ x
    step v e w never le most = ⊎_elim (λ same. absurd (never (same ∙ ap suc (sym e)))) (λ differ. omega (arith, e, le, most, differ))
        (cases_eq w (suc x))

    between : (d k : ℕ) → k + d < length xs → get_or xs k 0 ≡ x → get_or xs (k + d) 0 ≡ suc x → ⊥
    between zero k l e f = let z : k + 0 ≡ k = omega arith in let g = sym e ∙ (ap (λ i. get_or xs i 0) (sym z) ∙ f) in omega (arith, g)
    between (suc d) k l e f =
        let to : k + suc d ≡ (k + 1) + d = omega arith in
        let low = up k (k + 1) 0 (omega arith) (omega (arith, l)) in
        let high = up (k + 1) (k + suc d) 0 (omega arith) l in
        let next = step (get_or xs k 0) e (get_or xs (k + 1) 0) (steps k (omega (arith, l))) low (omega (arith, high, f)) in
        between d (k + 1) (omega (arith, l)) next (ap (λ i. get_or xs i 0) (sym to) ∙ f)

module _ (n : ℕ) (ts : List Place) (sorted : List ℕ) (within : AreWithin n ts) (perm : IsPermutation (positions_of n ts) sorted)
    (apart : AreApart sorted) where
  -- nothing is gone but the targets
  alone_gone : (r o : ℕ) → InForest n r o → is_gone ts r o ≡ has_place ts r o
  alone_gone zero o h = refl
  alone_gone (suc r) o h =
      let left = InForest-left n r o h in
      let right = InForest-right n r o h in
      ap₂ (λ x y. has_place ts (suc r) o || (x && y)) (alone_gone r (2 * o) left) (alone_gone r (2 * o + 1) right) ∙
      by_left (has_place ts r (2 * o)) (has_place ts r (2 * o + 1)) (λ it. other left right it)
    where
      other : InForest n r (2 * o) → InForest n r (2 * o + 1) → has_place ts r (2 * o) ≡ true → has_place ts r (2 * o + 1) ≡ false
      other left right it =
          let p : position n r (2 * o + 1) ≡ suc (position n r (2 * o)) = omega arith in
          sym (sorted_number_is n ts sorted (place r (2 * o + 1)) within perm right) ∙
          (ap (has_number sorted) p ∙ apart (position n r (2 * o)) (sorted_number_is n ts sorted (place r (2 * o)) within perm left ∙ it))

      by_left : (x y : Bool) → (x ≡ true → y ≡ false) → (has_place ts (suc r) o || (x && y)) ≡ has_place ts (suc r) o
      by_left false y f = or-false (has_place ts (suc r) o)
      by_left true y f = ap (λ z. has_place ts (suc r) o || (true && z)) (f refl) ∙ or-false (has_place ts (suc r) o)

  pub alone_tell : GoneTell n ts sorted []
  alone_tell r o h = and-true (has_number sorted (position n r o)) ∙ (sorted_number_is n ts sorted (place r o) within perm h ∙ sym (alone_gone r o h))

-- a child of a place of the forest
pub child_within : (n r o side : ℕ) → InForest n r o → 0 < r → side < 2 → InForest n (r - 1) (2 * o + side)
child_within n r o side h some small =
    let e : suc (r - 1) ≡ r = omega arith in
    let up : InForest n (suc (r - 1)) o = subst (λ x. InForest n x o) (sym e) h in
    ⊎_elim
    (λ z. let f : 2 * o ≡ 2 * o + side = omega (arith, z) in subst (λ x. InForest n (r - 1) x) f (InForest-left n (r - 1) o up))
    (λ z. let f : 2 * o + 1 ≡ 2 * o + side = omega (arith, z, small) in subst (λ x. InForest n (r - 1) x) f (InForest-right n (r - 1) o up))
    (cases_eq side 0)

module _ (n : ℕ) (ts : List Place) (p : Place) (h : InForest n p.row p.off) (stays : is_gone ts p.row p.off ≡ false) where
  pub moved_top : is_root n p.row p.off ≡ true → Some p ≡ moved n ts p.row p.off
  moved_top top = sym (moved-step n ts p.row p.off h ∙ rw (stays, top) refl)

  pub moved_up : is_root n p.row p.off ≡ false
      → moved n ts p.row p.off ≡ child_place (is_gone ts p.row (sibling_off p.off)) (p.off % 2) (moved n ts (suc p.row) (p.off / 2))
  moved_up other = moved-step n ts p.row p.off h ∙ rw (stays, other) refl

-- where a place moves to nothing: it is gone, or beneath a target
pub up_in : (n r o : ℕ) (ts : List Place) → is_gone ts r o ≡ false → is_gone ts (suc r) (o / 2) ≡ true → has_place ts (suc r) (o / 2) ≡ true
up_in n r o ts stays gone =
    ⊎_elim (λ it. it)
    (λ both.
    let w = and_parts (is_gone ts r (2 * (o / 2))) (is_gone ts r (2 * (o / 2) + 1)) both in
    absurd (⊎_elim
    (λ even. let e : 2 * (o / 2) ≡ o = omega (arith, even) in false≢true (sym stays ∙ (ap (is_gone ts r) (sym e) ∙ w.0)))
    (λ odd. let e : 2 * (o / 2) + 1 ≡ o = omega (arith, odd) in false≢true (sym stays ∙ (ap (is_gone ts r) (sym e) ∙ w.1)))
    (cases_eq (o % 2) 0)))
    (or_cases (has_place ts (suc r) (o / 2)) (is_gone ts r (2 * (o / 2)) && is_gone ts r (2 * (o / 2) + 1)) gone)

pub target_gone : (ts : List Place) (r o : ℕ) → has_place ts r o ≡ true → is_gone ts r o ≡ true
target_gone ts zero o it = it
target_gone ts (suc r) o it = or_left (has_place ts (suc r) o) (is_gone ts r (2 * o) && is_gone ts r (2 * o + 1)) it

above_one : (r o : ℕ) → is_above (place (suc r) (o / 2)) (place r o) ≡ true
above_one r o =
    let k : suc r - r ≡ 1 = omega arith in
    and_from (nat_lt r (suc r)) (o / 2 ^ (suc r - r) == o / 2) (lt-ltb _ _ (omega arith)) (eq-eqb _ _ (ap (λ x. o / 2 ^ x) k))

above_more : (t : Place) (r o : ℕ) → is_above t (place (suc r) (o / 2)) ≡ true → is_above t (place r o) ≡ true
above_more t r o h =
    let w = and_parts (nat_lt (suc r) t.row) ((o / 2) / 2 ^ (t.row - suc r) == t.off) h in
    let lt : suc r < t.row = ltb-true _ _ w.0 in
    let k : t.row - r ≡ suc (t.row - suc r) = omega (arith, lt) in
    and_from (nat_lt r t.row) (o / 2 ^ (t.row - r) == t.off) (lt-ltb _ _ (omega (arith, lt)))
    (eq-eqb _ _ (ap (λ x. o / 2 ^ x) k ∙ (half_pow o (t.row - suc r) ∙ eqb-true _ _ w.1)))

above_cases : (t : Place) (r o : ℕ) → is_above t (place r o) ≡ true → (t ≡ place (suc r) (o / 2)) ⊎ (is_above t (place (suc r) (o / 2)) ≡ true)
above_cases t r o h =
    let w = and_parts (nat_lt r t.row) (o / 2 ^ (t.row - r) == t.off) h in
    let lt : r < t.row = ltb-true _ _ w.0 in
    let off : o / 2 ^ (t.row - r) ≡ t.off = eqb-true _ _ w.1 in
    ⊎_elim
    (λ same.
    let k : t.row - r ≡ 1 = omega (arith, same) in
    inl (ap₂ (λ (x y : ℕ). let q : Place = record { row = x; off = y } in q) same (sym off ∙ ap (λ x. o / 2 ^ x) k)))
    (λ other.
    let high : suc r < t.row = omega (arith, lt, other) in
    let k : t.row - r ≡ suc (t.row - suc r) = omega (arith, high) in
    inr (and_from (nat_lt (suc r) t.row) ((o / 2) / 2 ^ (t.row - suc r) == t.off) (lt-ltb _ _ high)
    (eq-eqb _ _ (sym (ap (λ x. o / 2 ^ x) k ∙ half_pow o (t.row - suc r)) ∙ off))))
    (cases_eq t.row (suc r))

child_none : (b : Bool) (side : ℕ) (x : Option Place) → child_place b side x ≡ None → x ≡ None
child_none b side None e = refl
child_none true side (Some q) e = absurd (none-some _ (sym e))
child_none false side (Some q) e = absurd (none-some _ (sym e))

module _ (n : ℕ) (ts : List Place) (shape : HasShape n ts) where
  pub none_from : (k r o : ℕ) → n - r ≡ k → InForest n r o → moved n ts r o ≡ None → (is_gone ts r o ≡ true) ⊎ IsBeneathTarget ts (place r o)
  none_from zero r o e h m = let lt = row_below n r o h in absurd (omega arith)
  none_from (suc k) r o e h m =
      ⊎_elim (λ gone. inl gone)
      (λ stays. ⊎_elim
      (λ top. absurd (none-some _ (sym (moved_top n ts (place r o) h stays top ∙ m))))
      (λ other.
      let up = child_none _ _ _ (sym (moved_up n ts (place r o) h stays other) ∙ m) in
      let below : n - suc r ≡ k = omega (arith, e) in
      inr (⊎_elim
      (λ gone. (place (suc r) (o / 2), up_in n r o ts stays gone, above_one r o))
      (λ beneath. (beneath.0, beneath.1, above_more beneath.0 r o beneath.2))
      (none_from k (suc r) (o / 2) below (InForest-up n r o h other) up)))
      (cases_Bool (is_root n r o)))
      (cases_Bool (is_gone ts r o))

  pub none_of : (k r o : ℕ) → n - r ≡ k → InForest n r o → (is_gone ts r o ≡ true) ⊎ IsBeneathTarget ts (place r o) → moved n ts r o ≡ None
  none_of zero r o e h w = let lt = row_below n r o h in absurd (omega arith)
  none_of (suc k) r o e h w =
      ⊎_elim (λ gone. moved-is_gone n ts r o h gone)
      (λ stays. ⊎_elim
      (λ gone. absurd (false≢true (sym stays ∙ gone)))
      (λ b. ⊎_elim
      (λ top. absurd (above_root b.0 (shape.within b.0 b.1) b.2 top))
      (λ other.
      let below : n - suc r ≡ k = omega (arith, e) in
      let higher : (is_gone ts (suc r) (o / 2) ≡ true) ⊎ IsBeneathTarget ts (place (suc r) (o / 2)) =
      ⊎_elim
      (λ is. inl (target_gone ts (suc r) (o / 2) (subst (λ (x : Place). has_place ts x.row x.off ≡ true) is b.1)))
      (λ ab. inr (b.0, b.1, ab))
      (above_cases b.0 r o b.2) in
      moved_up n ts (place r o) h stays other ∙ ap (child_place (is_gone ts r (sibling_off o)) (o % 2))
      (none_of k (suc r) (o / 2) below (InForest-up n r o h other) higher))
      (cases_Bool (is_root n r o)))
      w)
      (cases_Bool (is_gone ts r o))
    where
      above_root : (t : Place) → InForest n t.row t.off → is_above t (place r o) ≡ true → is_root n r o ≡ true → ⊥
      above_root t i a top =
          let w = and_parts (nat_lt r t.row) (o / 2 ^ (t.row - r) == t.off) a in
          let lt : r < t.row = ltb-true _ _ w.0 in
          let off : o / 2 ^ (t.row - r) ≡ t.off = eqb-true _ _ w.1 in
          let j = t.row - r - 1 in
          let s : t.row - r ≡ suc j = omega (arith, lt) in
          let high : r + suc j ≡ t.row = omega (arith, lt) in
          nothing_above n r o j top (subst (λ x. InForest n x (o / 2 ^ suc j)) (sym high)
          (subst (λ x. InForest n t.row x) (sym (ap (λ x. o / 2 ^ x) (sym s) ∙ off)) i))

  pub none_exactly : (p : Place) → InForest n p.row p.off → (moved n ts p.row p.off ≡ None → (is_gone ts p.row p.off ≡ true) ⊎ IsBeneathTarget ts p)
      × ((is_gone ts p.row p.off ≡ true) ⊎ IsBeneathTarget ts p → moved n ts p.row p.off ≡ None)
  none_exactly p h = (none_from (n - p.row) p.row p.off refl h, none_of (n - p.row) p.row p.off refl h)

covered_kept : (a b : Bool) → (a ≡ true → b ≡ true) → (a && not b) ≡ false
covered_kept false b h = refl
covered_kept true b h = rw (h refl) refl

-- nothing is gone past a position where what is covered there is kept
pub none_past : (n : ℕ) (ts : List Place) (covered kept : List ℕ) (last : ℕ) → GoneTell n ts covered kept
    → ((x : ℕ) → last < x → has_number covered x ≡ true → has_number kept x ≡ true) → NoneGonePast n ts last
none_past n ts covered kept last tell has row off h lt =
    sym (tell row off h) ∙ covered_kept (has_number covered (position n row off)) (has_number kept (position n row off)) (has (position n row off) lt)

-- a place is gone whose position is covered and not kept
pub gone_at : (n : ℕ) (ts : List Place) (covered kept : List ℕ) (last : ℕ) → ArePositions n covered → GoneTell n ts covered kept
    → has_number covered last ≡ true → has_number kept last ≡ false → IsGoneAt n ts last
gone_at n ts covered kept last places tell there lacked =
    let w = has_where covered last there in
    let p = places w.0 w.1 in
    let at : pos n p.0 ≡ last = p.2 ∙ w.2 in
    let both : (has_number covered last && not (has_number kept last)) ≡ true = rw (there, lacked) refl in
    (p.0, p.1, at, sym (tell p.0.row p.0.off p.1) ∙ (ap (λ x. has_number covered x && not (has_number kept x)) at ∙ both))

-- there is no target where all that is covered is kept
pub no_target : (n : ℕ) (ts : List Place) (covered kept : List ℕ) → HasShape n ts → GoneTell n ts covered kept → HasAll kept covered → ts ≡ []
no_target n [] covered kept shape tell all = refl
no_target n (p ∷ ps) covered kept shape tell all =
    let here = has_first p ps in
    let stays = covered_kept (has_number covered (pos n p)) (has_number kept (pos n p)) (all (pos n p)) in
    absurd (false≢true (sym stays ∙ (tell p.row p.off (shape.within p here) ∙ target_gone (p ∷ ps) p.row p.off here)))

-- the last number that is covered and not kept tells the last place that is gone
pub last_is : (n : ℕ) (ts : List Place) (covered kept : List ℕ) (last : ℕ) → HasShape n ts → TellGone n ts covered kept
    → ((has_number covered last ≡ true) × (has_number kept last ≡ false)) ⊎ (HasAll kept covered × (last ≡ 0))
    → IsGoneAt n ts last ⊎ ((ts ≡ []) × (last ≡ 0))
last_is n ts covered kept last shape t (inl lacked) = inl (gone_at n ts covered kept last t.places t.tell lacked.0 lacked.1)
last_is n ts covered kept last shape t (inr none) = inr (no_target n ts covered kept shape t.tell none.0, none.1)
