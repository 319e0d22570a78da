-- Which of two places comes first.
use Rattle.std.proofs.Common.{◌≡◌, ℕ, true, false, ap₂, ◌∙◌, sym, ⊎_elim, inl, inr, arith, eq-eqb}
use Rattle.std.specs.Prelude.{◌⊎◌, ◌&&◌, ◌==◌, nat_lt}
use Rattle.std.proofs.lemmas.Bool.{cases_Bool, cases_order, or_cases, or_left, or_right, and_from, and_parts, false≢true, eqb-true, ltb-true, lt-ltb}
use Rattle.forest_place.specs.declared.place.Place.{Place}
use Rattle.forest_place.specs.Places.{IsBefore, is_before_place}

pub before_itself : (p : Place) → IsBefore p p → ⊥
before_itself p h = ⊎_elim (λ a. let z : ⊥ = omega (arith, a) in z) (λ b. let z : ⊥ = omega (arith, b.1) in z) h

pub before_both : (p q : Place) → IsBefore p q → IsBefore q p → ⊥
before_both p q h k =
    ⊎_elim
    (λ a. ⊎_elim (λ b. let z : ⊥ = omega (arith, a, b) in z) (λ b. let z : ⊥ = omega (arith, a, b.0) in z) k)
    (λ a. ⊎_elim (λ b. let z : ⊥ = omega (arith, a.0, b) in z) (λ b. let z : ⊥ = omega (arith, a.1, b.1) in z) k)
    h

pub before_trans : (p q r : Place) → IsBefore p q → IsBefore q r → IsBefore p r
before_trans p q r (inl a) (inl b) = inl (omega (arith, a, b))
before_trans p q r (inl a) (inr b) = inl (omega (arith, a, b.0))
before_trans p q r (inr a) (inl b) = inl (omega (arith, a.0, b))
before_trans p q r (inr a) (inr b) = inr (omega (arith, a.0, b.0), omega (arith, a.1, b.1))

pub place_order : (p q : Place) → IsBefore p q ⊎ ((p ≡ q) ⊎ IsBefore q p)
place_order p q =
    ⊎_elim
    (λ same. ⊎_elim
    (λ e. inr (inl (ap₂ (λ (x y : ℕ). let z : Place = record { row = x; off = y } in z) same e)))
    (⊎_elim (λ lt. inl (inr (same, lt))) (λ gt. inr (inr (inr (sym same, gt)))))
    (cases_order p.off q.off))
    (⊎_elim (λ lt. inl (inl lt)) (λ gt. inr (inr (inl gt))))
    (cases_order p.row q.row)

-- ---- the same as a test

pub before_means : (p q : Place) → is_before_place p q ≡ true → IsBefore p q
before_means p q h =
    ⊎_elim
    (λ lower. inl (ltb-true p.row q.row lower))
    (λ same. let b = and_parts (p.row == q.row) (nat_lt p.off q.off) same in inr (eqb-true p.row q.row b.0, ltb-true p.off q.off b.1))
    (or_cases (nat_lt p.row q.row) ((p.row == q.row) && nat_lt p.off q.off) h)

pub means_before : (p q : Place) → IsBefore p q → is_before_place p q ≡ true
means_before p q h =
    ⊎_elim
    (λ lower. or_left (nat_lt p.row q.row) ((p.row == q.row) && nat_lt p.off q.off) (lt-ltb p.row q.row lower))
    (λ same. or_right (nat_lt p.row q.row) ((p.row == q.row) && nat_lt p.off q.off)
    (and_from (p.row == q.row) (nat_lt p.off q.off) (eq-eqb p.row q.row same.0) (lt-ltb p.off q.off same.1)))
    h

pub comes_later : (p q : Place) → IsBefore p q → is_before_place q p ≡ false
comes_later p q lt = ⊎_elim (λ t. absurd (before_both p q lt (before_means q p t))) (λ f. f) (cases_Bool (is_before_place q p))

pub other_way : (p q : Place) → is_before_place p q ≡ false → (p ≡ q → ⊥) → IsBefore q p
other_way p q f ne = ⊎_elim (λ lt. absurd (false≢true (sym f ∙ means_before p q lt))) (λ rest. ⊎_elim (λ same. absurd (ne same)) (λ gt. gt) rest)
    (place_order p q)
