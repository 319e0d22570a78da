-- An ascending list and a part of it, from their ends.
use Rattle.std.proofs.Common.{◌≡◌, ℕ, zero, suc, ◌+◌, ◌-◌, ◌<◌, ◌≤◌, true, false, List, length, get_or, refl, sym, ap, ◌∙◌, subst, ⊎_elim, arith}
use Rattle.std.proofs.Common.{eq-eqb}
use Rattle.std.specs.Prelude.{◌==◌}
use Rattle.std.proofs.lemmas.Bool.{cases_lt, cases_eq, false_from_ne_true}
use Rattle.std.proofs.lemmas.List.Folds.{list_any_at}
use Rattle.std.proofs.lemmas.List.Kept.{AllPairs-from_increasing}
use Rattle.proof_shape.specs.Shape.{has_number}
use Rattle.proof_shape.specs.Moves.{HasAll, HasPart}
use Rattle.proof_shape.proofs.Ordered.{has_where}

-- the two lists are alike from index i of the first and index j of the second to their ends
pub record EndAlike (xs ys : List ℕ) (i j : ℕ) : Type 0 where
  pub low : i ≤ length xs
  pub even : i + length ys ≡ j + length xs
  pub alike : (d : ℕ) → i + d < length xs → get_or xs (i + d) 0 ≡ get_or ys (j + d) 0

pub alike_begins : (xs ys : List ℕ) → EndAlike xs ys (length xs) (length ys)
alike_begins xs ys = record { low = omega arith; even = omega arith; alike = λ d lt. absurd (omega (arith, lt)) }

-- one number more before the ends
pub alike_more : (xs ys : List ℕ) (i j : ℕ) → EndAlike xs ys i j → 0 < i → 0 < j → get_or xs (i - 1) 0 ≡ get_or ys (j - 1) 0
    → EndAlike xs ys (i - 1) (j - 1)
alike_more xs ys i j h some some' e =
    let low = h.low in
    let even = h.even in
    record { low = omega (arith, low); even = omega (arith, even, some, some'); alike = at }
  where
    at : (d : ℕ) → (i - 1) + d < length xs → get_or xs ((i - 1) + d) 0 ≡ get_or ys ((j - 1) + d) 0
    at zero lt =
        let here : i - 1 ≡ (i - 1) + 0 = omega arith in
        let there : j - 1 ≡ (j - 1) + 0 = omega arith in
        ap (λ k. get_or xs k 0) (sym here) ∙ (e ∙ ap (λ k. get_or ys k 0) there)
    at (suc d) lt =
        let here : i + d ≡ (i - 1) + suc d = omega (arith, some) in
        let there : j + d ≡ (j - 1) + suc d = omega (arith, some') in
        ap (λ k. get_or xs k 0) (sym here) ∙ (h.alike d (omega (arith, here, lt)) ∙ ap (λ k. get_or ys k 0) there)

module _ (xs ys : List ℕ) (i j : ℕ) (h : EndAlike xs ys i j) where
  alike_at : (k : ℕ) → i ≤ k → k < length xs → get_or xs k 0 ≡ get_or ys (j + (k - i)) 0
  alike_at k le lt =
      let at : i + (k - i) ≡ k = omega (arith, le) in
      ap (λ m. get_or xs m 0) (sym at) ∙ h.alike (k - i) (omega (arith, at, lt))

  pub end_has : (k : ℕ) → i ≤ k → k < length xs → has_number ys (get_or xs k 0) ≡ true
  end_has k le lt = list_any_at (λ y. y == get_or xs k 0) ys (j + (k - i)) 0 (let even = h.even in
      omega (arith, even, le, lt)) (eq-eqb _ _ (sym (alike_at k le lt)))

  -- where all of the first list is in the like ends
  pub all_alike : i ≡ 0 → HasAll ys xs
  all_alike none x there = let w = has_where xs x there in subst (λ y. has_number ys y ≡ true) w.2 (end_has w.0 (omega (arith, none)) w.1)

  module _ (part : HasPart xs ys) where
    below : (k m : ℕ) → k < m → m < length xs → get_or xs k 0 < get_or xs m 0
    below k m lt l = AllPairs-from_increasing xs part.rises k m 0 lt l

    part_below : (k m : ℕ) → k < m → m < length ys → get_or ys k 0 < get_or ys m 0
    part_below k m lt l = AllPairs-from_increasing ys part.part_rises k m 0 lt l

    -- what stands right before the like ends in the part is no less than what stands there in the list
    before_end : 0 < i → 0 < j → get_or ys (j - 1) 0 ≤ get_or xs (i - 1) 0
    before_end some some' =
        let low = h.low in
        let even = h.even in
        let y = get_or ys (j - 1) 0 in
        let w = has_where xs y (part.there y (list_any_at (λ z. z == y) ys (j - 1) 0 (omega (arith, low, even, some')) (eq-eqb y y refl))) in
        ⊎_elim
        (λ lt. ⊎_elim
        (λ same. let z = ap (λ k. get_or xs k 0) same in omega (arith, z, w.2))
        (λ other. let z = below w.0 (i - 1) (omega (arith, lt, other)) (omega (arith, low, some)) in omega (arith, z, w.2))
        (cases_eq w.0 (i - 1)))
        (λ le.
        let lt = w.1 in
        let z = part_below (j - 1) (j + (w.0 - i)) (omega (arith, some')) (omega (arith, even, le, lt)) in
        absurd (omega (arith, z, w.2, alike_at w.0 le lt)))
        (cases_lt w.0 i)

    pub last_lacked : 0 < i → (0 < j → get_or xs (i - 1) 0 ≡ get_or ys (j - 1) 0 → ⊥) → has_number ys (get_or xs (i - 1) 0) ≡ false
    last_lacked some differ =
        let low = h.low in
        let even = h.even in
        false_from_ne_true _ (λ t.
        let w = has_where ys (get_or xs (i - 1) 0) t in
        let l = w.1 in
        ⊎_elim
        (λ lt.
        let some' : 0 < j = omega (arith, lt) in
        let most = before_end some some' in
        ⊎_elim
        (λ same. let z = ap (λ k. get_or ys k 0) same in differ some' (sym w.2 ∙ z))
        (λ other. let z = part_below w.0 (j - 1) (omega (arith, lt, other)) (omega (arith, low, even, some')) in omega (arith, z, w.2, most))
        (cases_eq w.0 (j - 1)))
        (λ le.
        let k = i + (w.0 - j) in
        let long : k < length xs = omega (arith, even, le, l) in
        let back : j + (k - i) ≡ w.0 = omega (arith, le) in
        let e = alike_at k (omega arith) long ∙ ap (λ m. get_or ys m 0) back in
        let z = below (i - 1) k (omega (arith, some)) long in
        omega (arith, z, e, w.2))
        (cases_lt w.0 j))
