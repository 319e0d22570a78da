-- The parts of a row: n / 2^row of them, half as many in the next row.
use Rattle.std.proofs.Common.{◌≡◌, ℕ, zero, suc, ◌+◌, ◌*◌, ◌/◌, ◌%◌, ◌^◌, ◌<◌, ◌≤◌, true, false, sym, subst, ⊎_elim, arith, add-one, one-add}
use Rattle.std.proofs.Common.{◌-◌, ap, ◌∙◌}
use Rattle.std.specs.Prelude.{◌==◌}
use Rattle.std.proofs.lemmas.Nat.{shr-shr, pow-add}
use Rattle.std.proofs.lemmas.Bool.{and_parts, and_from, eqb-true, eqb-false, eq-eqb, ne_eqb, and_left, and_right, and_cases, false_from_ne_true}
use Rattle.std.proofs.Math.Nat.{mul-le-mul_right, div-mul-le_self}
use Rattle.forest_place.specs.Forest.{InForest, is_root, is_slot, root_off}

pub parts-suc : (n r : ℕ) → n / 2 ^ suc r ≡ n / 2 ^ r / 2
parts-suc n r = subst (λ k. n / 2 ^ k ≡ n / 2 ^ r / 2) (add-one r) (sym (shr-shr n r 1))

pub double_half : (o : ℕ) → (2 * o) / 2 ≡ o
double_half o = omega arith

pub double_half_odd : (o : ℕ) → (2 * o + 1) / 2 ≡ o
double_half_odd o = omega arith

pub double_even : (o : ℕ) → (2 * o) % 2 ≡ 0
double_even o = omega arith

pub double_odd : (o : ℕ) → (2 * o + 1) % 2 ≡ 1
double_odd o = omega arith

-- a part above row 0 has both its halves
pub InForest-left : (n r o : ℕ) → InForest n (suc r) o → InForest n r (2 * o)
InForest-left n r o h = omega (arith, rw parts-suc at h)

pub InForest-right : (n r o : ℕ) → InForest n (suc r) o → InForest n r (2 * o + 1)
InForest-right n r o h = omega (arith, rw parts-suc at h)

-- they are no roots
pub not_root-left : (n r o : ℕ) → InForest n (suc r) o → is_root n r (2 * o) ≡ false
not_root-left n r o h = and_right (2 * o % 2 == 0) (2 * o + 1 == n / 2 ^ r) (ne_eqb _ _ (λ e. omega (arith, rw parts-suc at h, e)))

pub not_root-right : (n r o : ℕ) → InForest n (suc r) o → is_root n r (2 * o + 1) ≡ false
not_root-right n r o h = and_left ((2 * o + 1) % 2 == 0) (2 * o + 1 + 1 == n / 2 ^ r) (ne_eqb _ _ (λ e. omega (arith, e)))

-- a row of the forest is no greater than n
parts_row : (n r : ℕ) → 0 < n / 2 ^ r → n / 2 ^ r + r ≤ n
parts_row n zero h = omega arith
parts_row n (suc r) h = rw parts-suc (let p : 0 < n / 2 ^ r = omega (arith, rw parts-suc at h) in omega (arith, parts_row n r p))

pub row_below : (n r o : ℕ) → InForest n r o → r < n
row_below n r o h = omega (arith, parts_row n r (omega arith))

-- what is no root has its parent in the forest
pub InForest-up : (n r o : ℕ) → InForest n r o → is_root n r o ≡ false → InForest n (suc r) (o / 2)
InForest-up n r o h is_no =
    rw parts-suc (⊎_elim
    (λ e. let e' : o % 2 ≡ 0 → ⊥ = eqb-false _ _ e in omega (arith, e'))
    (λ e. let e' : o + 1 ≡ n / 2 ^ r → ⊥ = eqb-false _ _ e in omega (arith, e'))
    (and_cases (o % 2 == 0) (o + 1 == n / 2 ^ r) is_no))

-- a slot's root is in the forest, and is a root
pub InForest-root : (n r o : ℕ) → is_root n r o ≡ true → InForest n r o
InForest-root n r o h = omega (arith, eqb-true _ _ (and_parts (o % 2 == 0) (o + 1 == n / 2 ^ r) h).1)

pub is_root-root_off : (n r : ℕ) → is_slot n r ≡ true → is_root n r (root_off n r) ≡ true
is_root-root_off n r h =
    let e : n / 2 ^ r % 2 ≡ 1 = eqb-true _ _ h in
    and_from (root_off n r % 2 == 0) (root_off n r + 1 == n / 2 ^ r) (eq-eqb _ _ (omega (arith, e))) (eq-eqb _ _ (omega (arith, e)))

pub root_off-is_root : (n r o : ℕ) → is_root n r o ≡ true → (o ≡ root_off n r) × (is_slot n r ≡ true)
root_off-is_root n r o h =
    let p = and_parts (o % 2 == 0) (o + 1 == n / 2 ^ r) h in
    let e : o % 2 ≡ 0 = eqb-true _ _ p.0 in
    let f : o + 1 ≡ n / 2 ^ r = eqb-true _ _ p.1 in
    (omega arith, eq-eqb _ _ (omega arith))

-- a child of a place of the forest is in the forest, and is no root
pub InForest-down : (n r o : ℕ) → InForest n (suc r) (o / 2) → InForest n r o
InForest-down n r o h = omega (arith, rw parts-suc at h)

pub not_root-down : (n r o : ℕ) → InForest n (suc r) (o / 2) → is_root n r o ≡ false
not_root-down n r o h =
    false_from_ne_true (is_root n r o) (λ t.
    let p = and_parts (o % 2 == 0) (o + 1 == n / 2 ^ r) t in
    let e : o % 2 ≡ 0 = eqb-true _ _ p.0 in
    let f : o + 1 ≡ n / 2 ^ r = eqb-true _ _ p.1 in
    omega (arith, rw parts-suc at h, e, f))

-- the same from further up
pub half_pow : (o k : ℕ) → o / 2 ^ suc k ≡ o / 2 / 2 ^ k
half_pow o k = subst (λ j. o / 2 ^ j ≡ o / 2 / 2 ^ k) (one-add k) (sym (shr-shr o 1 k))

pub InForest-beneath : (n k r o : ℕ) → InForest n (r + k) (o / 2 ^ k) → InForest n r o
InForest-beneath n zero r o h = let e : r + 0 ≡ r = omega arith in let f : o / 1 ≡ o = omega arith in
    subst (λ x. InForest n r x) f (subst (λ x. InForest n x (o / 1)) e h)
InForest-beneath n (suc k) r o h =
    let e : r + suc k ≡ suc r + k = omega arith in
    InForest-down n r o (InForest-beneath n k (suc r) (o / 2)
    (subst (λ x. InForest n (suc r + k) x) (half_pow o k) (subst (λ x. InForest n x (o / 2 ^ suc k)) e h)))

-- where a larger part begins, no larger than where a smaller one does
pub whole_parts : (n m h : ℕ) → m ≤ h → n / 2 ^ h * 2 ^ h ≤ n / 2 ^ m * 2 ^ m
whole_parts n m h le =
    let k = h - m in
    let up : m + k ≡ h = omega (arith, le) in
    let wide : 2 ^ h ≡ 2 ^ m * 2 ^ k = ap (λ x. 2 ^ x) (sym up) ∙ pow-add 2 m k in
    let e : n / 2 ^ h ≡ n / 2 ^ m / 2 ^ k = ap (λ x. n / 2 ^ x) (sym up) ∙ sym (shr-shr n m k) in
    let a = mul-le-mul_right (2 ^ m) (div-mul-le_self (n / 2 ^ m) (2 ^ k)) in
    subst (λ x. x * 2 ^ h ≤ n / 2 ^ m * 2 ^ m) (sym e) (subst (λ y. n / 2 ^ m / 2 ^ k * y ≤ n / 2 ^ m * 2 ^ m) (sym wide) (omega (arith, a)))
