-- Numbers that are parted by a test.
use Rattle.std.proofs.Common.{◌≡◌, ℕ, zero, suc, ◌/◌, ◌^◌, ◌<◌, ◌≤◌, Bool, true, false, not, ◌&&◌, List, [], ◌∷◌, length, take, drop, get_or, refl}
use Rattle.std.proofs.Common.{sym, ap, ◌∙◌, ⊎_elim, arith, eq-eqb}
use Rattle.std.specs.Prelude.{◌==◌, nat_le, filter}
use Rattle.std.specs.List.Sorted.{IsNonDecreasing}
use Rattle.std.proofs.Math.Nat.{div-mul-le_self}
use Rattle.std.proofs.lemmas.Nat.{le-div, pow_pos}
use Rattle.std.proofs.lemmas.Bool.{cases_Bool, lt-leb, eqb-true, false≢true, or_cases, or_left, or_right}
use Rattle.forest_model.proofs.Deleting.{is_spent}

-- the first elements pass a test and the others fail it: so they are a filter each
pub parted : {X : Type 0} (p : X → Bool) (xs : List X) (k : ℕ) (d : X) → k ≤ length xs → ((j : ℕ) → j < k → p (get_or xs j d) ≡ true)
    → ((j : ℕ) → k ≤ j → j < length xs → p (get_or xs j d) ≡ false) → (take k xs ≡ filter p xs) × (drop k xs ≡ filter (λ x. not (p x)) xs)
parted p [] zero d h up beyond = (refl, refl)
parted p [] (suc k) d h up beyond = absurd (omega (arith, h))
parted p (x ∷ xs) zero d h up beyond =
    let first : p x ≡ false = beyond 0 (omega arith) (omega arith) in
    let rest = parted p xs zero d (omega arith) (λ j lt. absurd (omega (arith, lt))) (λ j le lt. beyond (suc j) (omega arith) (omega (arith, lt))) in
    (rest.0 ∙ rw first refl, ap (λ ys. x ∷ ys) rest.1 ∙ rw first refl)
parted p (x ∷ xs) (suc k) d h up beyond =
    let first : p x ≡ true = up 0 (omega arith) in
    let rest = parted p xs k d (omega (arith, h)) (λ j lt. up (suc j) (omega (arith, lt)))
    (λ j le lt. beyond (suc j) (omega (arith, le)) (omega (arith, lt))) in
    (ap (λ ys. x ∷ ys) rest.0 ∙ rw first refl, rest.1 ∙ rw first refl)

-- two tests that agree on the elements of a list
pub filter_alike : (p q : ℕ → Bool) (xs : List ℕ) → ((x : ℕ) → is_spent xs x ≡ true → p x ≡ q x) → filter p xs ≡ filter q xs
filter_alike p q [] same = refl
filter_alike p q (x ∷ xs) same =
    let first : p x ≡ q x = same x (or_left (x == x) (is_spent xs x) (eq-eqb x x refl)) in
    let rest = filter_alike p q xs (λ y h. same y (or_right (x == y) (is_spent xs y) h)) in
    ⊎_elim
    (λ yes. let other : q x ≡ true = sym first ∙ yes in rw (yes, other) (ap (λ ys. x ∷ ys) rest))
    (λ no. let other : q x ≡ false = sym first ∙ no in rw (no, other) rest)
    (cases_Bool (p x))

pub filter_twice : (p q : ℕ → Bool) (xs : List ℕ) → filter p (filter q xs) ≡ filter (λ x. q x && p x) xs
filter_twice p q [] = refl
filter_twice p q (x ∷ xs) = with_rest (filter_twice p q xs)
  where
    with_rest : filter p (filter q xs) ≡ filter (λ y. q y && p y) xs → filter p (filter q (x ∷ xs)) ≡ filter (λ y. q y && p y) (x ∷ xs)
    with_rest rest = ⊎_elim yes_first no_first (cases_Bool (q x))
      where
        yes_both : q x ≡ true → p x ≡ true → filter p (filter q (x ∷ xs)) ≡ filter (λ y. q y && p y) (x ∷ xs)
        yes_both a b = rw (a, b) (ap (λ ys. x ∷ ys) rest)

        yes_not : q x ≡ true → p x ≡ false → filter p (filter q (x ∷ xs)) ≡ filter (λ y. q y && p y) (x ∷ xs)
        yes_not a b = rw (a, b) rest

        yes_first : q x ≡ true → filter p (filter q (x ∷ xs)) ≡ filter (λ y. q y && p y) (x ∷ xs)
        yes_first a = ⊎_elim (yes_both a) (yes_not a) (cases_Bool (p x))

        no_first : q x ≡ false → filter p (filter q (x ∷ xs)) ≡ filter (λ y. q y && p y) (x ∷ xs)
        no_first a = rw a rest

-- a filter has an element exactly where the list has it and it passes
pub filter_spent : (p : ℕ → Bool) (xs : List ℕ) (x : ℕ) → is_spent xs x ≡ true → p x ≡ true → is_spent (filter p xs) x ≡ true
filter_spent p [] x h t = absurd (false≢true h)
filter_spent p (y ∷ ys) x h t =
    ⊎_elim
    (λ here. let e : y ≡ x = eqb-true y x here in let yes : p y ≡ true = ap p e ∙ t in rw yes (or_left (y == x) (is_spent (filter p ys) x) here))
    (λ there. let rest = filter_spent p ys x there t in
    ⊎_elim
    (λ yes. rw yes (or_right (y == x) (is_spent (filter p ys) x) rest))
    (λ no. rw no rest)
    (cases_Bool (p y)))
    (or_cases (y == x) (is_spent ys x) h)

pub spent_filter : (p : ℕ → Bool) (xs : List ℕ) (x : ℕ) → is_spent (filter p xs) x ≡ true → (is_spent xs x ≡ true) × (p x ≡ true)
spent_filter p [] x h = absurd (false≢true h)
spent_filter p (y ∷ ys) x h =
    ⊎_elim
    (λ yes. ⊎_elim
    (λ here. (or_left (y == x) (is_spent ys x) here, ap p (sym (eqb-true y x here)) ∙ yes))
    (λ there. let rest = spent_filter p ys x there in (or_right (y == x) (is_spent ys x) rest.0, rest.1))
    (or_cases (y == x) (is_spent (filter p ys) x) (rw yes at h)))
    (λ no. let rest = spent_filter p ys x (rw no at h) in (or_right (y == x) (is_spent ys x) rest.0, rest.1))
    (cases_Bool (p y))

pub head_spent : (x : ℕ) (xs : List ℕ) → is_spent (x ∷ xs) x ≡ true
head_spent x xs = or_left (x == x) (is_spent xs x) (eq-eqb x x refl)

pub none_spent : (xs : List ℕ) (x : ℕ) → xs ≡ [] → is_spent xs x ≡ true → ⊥
none_spent xs x e h = false≢true (ap (λ ys. is_spent ys x) (sym e) ∙ h)

pub parts_rise : (row x y : ℕ) → x ≤ y → x / 2 ^ row ≤ y / 2 ^ row
parts_rise row x y h = le-div (x / 2 ^ row) y (2 ^ row) (pow_pos row) (omega (arith, h, div-mul-le_self x (2 ^ row)))

-- numbers that rise are parted by a bound on the parts in which they lie
pub parted_upto : (numbers : List ℕ) (row off count : ℕ) → IsNonDecreasing numbers → count ≤ length numbers
    → ((j : ℕ) → j < count → nat_le (get_or numbers j 0 / 2 ^ row) off ≡ true) → (count < length numbers → off < get_or numbers count 0 / 2 ^ row)
    → (take count numbers ≡ filter (λ i. nat_le (i / 2 ^ row) off) numbers)
    × (drop count numbers ≡ filter (λ i. not (nat_le (i / 2 ^ row) off)) numbers)
parted_upto numbers row off count rise within upto over =
    parted (λ i. nat_le (i / 2 ^ row) off) numbers count 0 within upto
    (λ j le lt. lt-leb (get_or numbers j 0 / 2 ^ row) off
    (omega (arith, over (omega (arith, le, lt)), parts_rise row (get_or numbers count 0) (get_or numbers j 0) (rise count j 0 le lt))))

-- the first of some numbers is one of them, and so is the last
pub one_spent : (xs : List ℕ) (i d : ℕ) → i < length xs → is_spent xs (get_or xs i d) ≡ true
one_spent [] i d lt = absurd (omega (arith, lt))
one_spent (x ∷ xs) zero d lt = head_spent x xs
one_spent (x ∷ xs) (suc i) d lt = or_right (x == get_or xs i d) (is_spent xs (get_or xs i d)) (one_spent xs i d (omega (arith, lt)))

pub spent_some : (xs : List ℕ) (x : ℕ) → is_spent xs x ≡ true → 0 < length xs
spent_some [] x h = absurd (false≢true h)
spent_some (y ∷ ys) x h = omega arith
