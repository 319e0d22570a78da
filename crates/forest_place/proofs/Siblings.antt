-- Siblings.
use Rattle.std.proofs.Common.{◌≡◌, ℕ, ◌+◌, ◌*◌, ◌/◌, ◌%◌, ◌^◌, false, refl, sym, ◌∙◌, ⊎_elim, inl, inr, arith, eq-eqb, ne_eqb, eqb-true}
use Rattle.std.specs.Prelude.{◌==◌, ◌⊎◌}
use Rattle.std.proofs.lemmas.Bool.{cases_eq, and_from, and_parts, true≢false, false_from_ne_true}
use Rattle.forest_place.specs.Forest.{InForest, is_root, sibling_off}
use Rattle.forest_place.proofs.Parts.{double_even, double_odd}

pub sibling_off-left : (o : ℕ) → sibling_off (2 * o) ≡ 2 * o + 1
sibling_off-left o = rw (eq-eqb (2 * o % 2) 0 (double_even o)) refl

pub sibling_off-right : (o : ℕ) → sibling_off (2 * o + 1) ≡ 2 * o
sibling_off-right o = let e : (2 * o + 1) % 2 ≡ 1 = double_odd o in rw e (omega arith)

pub sibling_cases : (o : ℕ) → ((o % 2 ≡ 0) × (sibling_off o ≡ o + 1)) ⊎ ((o % 2 ≡ 1) × (sibling_off o + 1 ≡ o))
sibling_cases o =
    ⊎_elim
    (λ even. inl (even, rw (eq-eqb (o % 2) 0 even) refl))
    (λ odd. let one : o % 2 ≡ 1 = omega (arith, odd) in inr (one, rw (ne_eqb (o % 2) 0 odd) (omega (arith, one))))
    (cases_eq (o % 2) 0)

-- the sibling's sibling
pub sibling_twice : (o : ℕ) → sibling_off (sibling_off o) ≡ o
sibling_twice o =
    ⊎_elim
    (λ a. ⊎_elim (λ b. absurd (omega (arith, a, b))) (λ b. omega (arith, a, b)) (sibling_cases (sibling_off o)))
    (λ a. ⊎_elim (λ b. omega (arith, a, b)) (λ b. absurd (omega (arith, a, b))) (sibling_cases (sibling_off o)))
    (sibling_cases o)

-- siblings have one parent
pub sibling_half : (o : ℕ) → sibling_off o / 2 ≡ o / 2
sibling_half o = ⊎_elim (λ a. omega (arith, a)) (λ a. omega (arith, a)) (sibling_cases o)

-- the sibling of a place that is no root is in the forest
pub sibling_within : (n r o : ℕ) → InForest n r o → is_root n r o ≡ false → InForest n r (sibling_off o)
sibling_within n r o h other =
    ⊎_elim
    (λ a.
    let last : o + 1 ≡ n / 2 ^ r → ⊥ = λ e. true≢false (sym (and_from (o % 2 == 0) (o + 1 == n / 2 ^ r) (eq-eqb _ _ a.0) (eq-eqb _ _ e)) ∙ other) in
    omega (arith, last, a))
    (λ a. omega (arith, a))
    (sibling_cases o)

-- the sibling of a place of the forest is no root
pub sibling_no_root : (n r o : ℕ) → InForest n r o → is_root n r (sibling_off o) ≡ false
sibling_no_root n r o h =
    false_from_ne_true _ (λ top.
    let w = and_parts (sibling_off o % 2 == 0) (sibling_off o + 1 == n / 2 ^ r) top in
    let e : sibling_off o % 2 ≡ 0 = eqb-true _ _ w.0 in
    let l : sibling_off o + 1 ≡ n / 2 ^ r = eqb-true _ _ w.1 in
    ⊎_elim (λ a. let z : ⊥ = omega (arith, a, e, l) in z) (λ a. let z : ⊥ = omega (arith, a, e, l) in z) (sibling_cases o))
