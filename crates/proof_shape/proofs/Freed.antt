-- Where a sweep puts each target anew, the targets have shape.
use Rattle.std.proofs.Common.{◌≡◌, ℕ, zero, suc, ◌+◌, ◌-◌, ◌/◌, ◌^◌, ◌<◌, ◌≤◌, true, false, List, [], ◌∷◌, ◌++◌, length, get_or, refl, sym, ap, ◌∙◌}
use Rattle.std.proofs.Common.{subst, ⊎_elim, inl, inr, arith, eqb-true, ap₂}
use Rattle.std.specs.Prelude.{◌⊎◌, ◌==◌, nat_lt}
use Rattle.std.specs.List.Sorted.{IsNonDecreasing, IsPermutation}
use Rattle.std.proofs.lemmas.Bool.{cases_lt, cases_Bool, and_parts, ltb-true, false_from_ne_true}
use Rattle.forest_place.specs.declared.place.Place.{Place}
use Rattle.forest_place.specs.Forest.{InForest, is_root}
use Rattle.forest_place.specs.Places.{AreWithin, has_place, place_in, up}
use Rattle.forest_place.specs.Position.{positions_of}
use Rattle.forest_place.proofs.Listed.{place}
use Rattle.forest_place.proofs.Parts.{half_pow, InForest-up}
use Rattle.forest_model.specs.Cover.{HasShape}
use Rattle.proof_shape.specs.Survey.{pos, is_top, has}
use Rattle.proof_shape.specs.Swept.{ArePositions, IsAdded, IsClimbed, ClimbsNext, NumberNext, IsSweep, IsSwept, AreFree}
use Rattle.proof_shape.proofs.Ordered.{has_at, has_where, sorted_number_is}
use Rattle.proof_shape.proofs.Longer.{has_cases, place_where}
use Rattle.proof_shape.proofs.Climbing.{nothing_above}
use Rattle.proof_shape.proofs.Sweeping.{self_up, ups_rise, not_last}
use Rattle.proof_shape.proofs.Shapes.{shape_from_sorted}

pub free_begins : (n : ℕ) (xs : List ℕ) → AreFree n xs [] 0
free_begins n xs = record { rising = λ a b lt h. absurd (omega (arith, h)); clear = λ m c lt h other e. absurd (omega (arith, lt)) }

module _ (n : ℕ) (xs : List ℕ) (cs : List Place) (k j : ℕ) (s : IsSweep n xs cs k j) (places : ArePositions n xs) (sorted : IsNonDecreasing xs)
    (f : AreFree n xs cs j) where
  -- a number before index j is the position of a place of the list
  told : (m : ℕ) → m < j → (a : ℕ) × (a < length cs) × (pos n (place_in cs a) ≡ get_or xs m 0)
  told m lt =
      let few = s.few in
      let q = places m (omega (arith, lt, few)) in
      let w = place_where cs q.0.row q.0.off (s.numbers m lt q.0 q.1 q.2) in
      (w.0, w.1, ap (pos n) w.2 ∙ q.2)

  -- a place at the end that is not before any
  free_more : (p : Place) → InForest n p.row p.off → ((a : ℕ) → a < length cs → pos n (place_in cs a) ≤ pos n p) → (m : ℕ) (c : Place) → m < j
      → has (cs ++ p ∷ []) c ≡ true → is_top n c ≡ false → pos n (up c) ≡ get_or xs m 0 → ⊥
  free_more p inside high m c lt h other e =
      ⊎_elim
      (λ old. f.clear m c lt old other e)
      (λ (same : p ≡ c).
      let w = told m lt in
      let low = high w.0 w.1 in
      let above = self_up n p inside (ap (is_top n) same ∙ other) in
      let at : pos n (up p) ≡ get_or xs m 0 = ap (λ x. pos n (up x)) same ∙ e in
      omega (arith, low, above, at, w.2))
      (has_cases cs p c.row c.off h)

  in_list : (m : ℕ) → m < length cs → InForest n (place_in cs m).row (place_in cs m).off
  in_list m h = s.within (place_in cs m).row (place_in cs m).off (has_at cs m (record { row = 0; off = 0 }) h)

  pub free_climbed : (new : List Place) → ClimbsNext n cs k xs j → IsClimbed n cs k new → AreFree n xs new j
  free_climbed new c h = by_top (cases_Bool (is_top n (place_in cs k)))
    where
      by_top : (is_top n (place_in cs k) ≡ true) ⊎ (is_top n (place_in cs k) ≡ false) → AreFree n xs new j
      by_top (inl top) = subst (λ l. AreFree n xs l j) (sym (h.top top)) f
      by_top (inr other) =
          let there = c.there in
          let inside = InForest-up n (place_in cs k).row (place_in cs k).off (in_list k there) other in
          ⊎_elim
          (λ same. subst (λ l. AreFree n xs l j) (sym same.2) f)
          (λ added. subst (λ l. AreFree n xs l j) (sym added.1) (record {
            rising = f.rising;
            clear = free_more (up (place_in cs k)) inside (λ a la. s.ups k a (omega arith) there la other);
          }))
          (h.below other)

  module _ (p : Place) (c : NumberNext n cs k xs j) (lj : j < length xs) (inside : InForest n p.row p.off) (is : pos n p ≡ get_or xs j 0)
      (new : 0 < length cs → place_in cs (length cs - 1) ≡ p → ⊥) where
    high : (a : ℕ) → a < length cs → pos n (place_in cs a) ≤ pos n p
    high a la = let z = s.tops j a (omega arith) lj la in omega (arith, z, is)

    below : (a : ℕ) → a < length cs → pos n (place_in cs a) < pos n p
    below = not_last n cs s.rises p high inside s.within new

    -- no place of the list has p right above it
    none_beneath : (a : ℕ) → a < length cs → is_top n (place_in cs a) ≡ false → pos n (up (place_in cs a)) ≡ pos n p → ⊥
    none_beneath a la other e =
        ⊎_elim
        (λ lt.
        let w = place_where cs (up (place_in cs a)).row (up (place_in cs a)).off (s.closed a lt other) in
        let z = below w.0 w.1 in
        let at : pos n (place_in cs w.0) ≡ pos n (up (place_in cs a)) = ap (pos n) w.2 in
        omega (arith, z, at, e))
        (λ ge.
        let lk : k < length cs = omega (arith, ge, la) in
        let w = c.least lk in
        ⊎_elim
        (λ lt. let z = ups_rise n (place_in cs k) (place_in cs a) (in_list k lk) (in_list a la) w.0 other (s.rises k a lt la) in
        omega (arith, z, w.2, e, is))
        (λ le. let same : a ≡ k = omega (arith, ge, le) in let at : pos n (up (place_in cs a)) ≡ pos n (up (place_in cs k)) =
        ap (λ x. pos n (up (place_in cs x))) same in omega (arith, at, w.2, e, is))
        (cases_lt k a))
        (cases_lt a k)

    free_added : AreFree n xs (cs ++ p ∷ []) (j + 1)
    free_added = record {
      rising = λ a b lt h.
          ⊎_elim
          (λ early. f.rising a b lt early)
          (λ last.
          let at : b ≡ j = omega (arith, last, h) in
          let la : a < j = omega (arith, lt, at) in
          let w = told a la in
          let z = below w.0 w.1 in
          subst (λ x. get_or xs a 0 < get_or xs x 0) (sym at) (omega (arith, z, w.2, is)))
          (cases_lt b j);
      clear = λ m q lt h other e.
          ⊎_elim
          (λ early. free_more p inside high m q early h other e)
          (λ last.
          let at : m ≡ j = omega (arith, last, lt) in
          let here : pos n (up q) ≡ pos n p = e ∙ (ap (λ x. get_or xs x 0) at ∙ sym is) in
          ⊎_elim
          (λ old.
          let w = place_where cs q.row q.off old in
          none_beneath w.0 w.1 (ap (is_top n) w.2 ∙ other) (ap (λ x. pos n (up x)) w.2 ∙ here))
          (λ (same : p ≡ q).
          let above = self_up n p inside (ap (is_top n) same ∙ other) in
          let there : pos n (up p) ≡ pos n p = ap (λ x. pos n (up x)) same ∙ here in
          omega (arith, above, there))
          (has_cases cs p q.row q.off h))
          (cases_lt m j);
    }

  pub free_numbered : (new : List Place) (p : Place) → NumberNext n cs k xs j → j < length xs → InForest n p.row p.off → pos n p ≡ get_or xs j 0
      → IsAdded cs p new → AreFree n xs new (j + 1)
  free_numbered new p c lj inside is h = subst (λ l. AreFree n xs l (j + 1)) (sym h.1) (free_added p c lj inside is h.0)

module _ (n : ℕ) (xs : List ℕ) (cs : List Place) (s : IsSwept n xs cs) where
  lower : (k r o : ℕ) → InForest n (r + suc k) (o / 2 ^ suc k) → is_root n r o ≡ false
  lower k r o i = false_from_ne_true _ (λ top. nothing_above n r o k top i)

  -- a place of the list right beneath one that stands above a place of it
  right_beneath : (k r o : ℕ) → has_place cs r o ≡ true → InForest n (r + suc k) (o / 2 ^ suc k) → (c : Place) × (has cs c ≡ true)
      × (is_top n c ≡ false) × (up c ≡ place (r + suc k) (o / 2 ^ suc k))
  right_beneath zero r o h i =
      let e : suc r ≡ r + suc zero = omega arith in
      let half : o / 2 ≡ o / 2 ^ suc zero = refl in
      (place r o, h, lower zero r o i, ap₂ place e half)
  right_beneath (suc l) r o h i =
      let e : suc r + suc l ≡ r + suc (suc l) = omega arith in
      let half : o / 2 ^ suc (suc l) ≡ o / 2 / 2 ^ suc l = half_pow o (suc l) in
      let w = place_where cs r o h in
      let there : has_place cs (suc r) (o / 2) ≡ true =
      subst (λ (p : Place). has cs (up p) ≡ true) w.2 (s.closed w.0 w.1 (ap (is_top n) w.2 ∙ lower (suc l) r o i)) in
      let z = right_beneath l (suc r) (o / 2) there
      (subst (λ x. InForest n (suc r + suc l) x) half (subst (λ x. InForest n x (o / 2 ^ suc (suc l))) (sym e) i)) in
      (z.0, z.1, z.2, z.3 ∙ ap₂ place e (sym half))

pub shape_from_free : (n : ℕ) (ps : List Place) (ys : List ℕ) (cs : List Place) → AreWithin n ps → IsPermutation (positions_of n ps) ys
    → IsSwept n ys cs → AreFree n ys cs (length ys) → HasShape n ps
shape_from_free n ps ys cs within perm s f =
    shape_from_sorted n ps ys within perm
    (λ k lt. f.rising k (k + 1) (omega arith) lt)
    (λ r o h q i above. false_from_ne_true _ (λ there.
    let m = has_where ys (pos n q) there in
    let own = has_where ys (pos n (place r o)) (sorted_number_is n ps ys (place r o) within perm (within r o h) ∙ h) in
    let covered = s.numbers own.0 own.1 (place r o) (within r o h) (sym own.2) in
    let w = and_parts (nat_lt r q.row) (o / 2 ^ (q.row - r) == q.off) above in
    let lt : r < q.row = ltb-true _ _ w.0 in
    let k = q.row - r - 1 in
    let row : r + suc k ≡ q.row = omega (arith, lt) in
    let rise : q.row - r ≡ suc k = omega (arith, lt) in
    let off : o / 2 ^ suc k ≡ q.off = ap (λ x. o / 2 ^ x) (sym rise) ∙ eqb-true _ _ w.1 in
    let c = right_beneath n ys cs s k r o covered
    (subst (λ x. InForest n x (o / 2 ^ suc k)) (sym row) (subst (λ x. InForest n q.row x) (sym off) i)) in
    f.clear m.0 c.0 m.1 c.1 c.2 (ap (pos n) (c.3 ∙ ap₂ place row off) ∙ sym m.2)))
