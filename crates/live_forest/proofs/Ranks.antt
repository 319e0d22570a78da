-- Counting the numbers of a set, and the gaps between them.
use Rattle.std.proofs.Common.{◌≡◌, ◌≢◌, ℕ, zero, suc, ◌+◌, ◌-◌, ◌*◌, ◌/◌, ◌%◌, ◌^◌, ◌<◌, ◌≤◌, Bool, true, false, refl, sym, ap, ap₂, ◌∙◌, subst}
use Rattle.std.proofs.Common.{⊎_elim, arith}
use Rattle.std.proofs.Common.{pow-suc, inl, inr, ◌⊎◌}
use Rattle.std.specs.Prelude.{◌||◌, if◌then◌else◌}
use Rattle.std.proofs.lemmas.Bool.{cases_order, cases_lt, cases_eq, cases_Bool, or_cases, or_left, or_right, true≢false}
use Rattle.std.proofs.lemmas.Nat.{pow_pos, pow-add, mul-le, div-mul-add, same_from_place}
use Rattle.forest_place.proofs.Parts.{parts-suc}
use Rattle.live_forest.specs.Sets.{has_part, rank}
use Rattle.live_forest.specs.Pages.{middle, IsBranch}

pub rank-in : (s : ℕ → Bool) (i : ℕ) → s i ≡ true → rank s (suc i) ≡ rank s i + 1
rank-in s i e = ap (λ b. rank s i + (if b then 1 else 0)) e

pub rank-out : (s : ℕ → Bool) (i : ℕ) → s i ≡ false → rank s (suc i) ≡ rank s i
rank-out s i e = ap (λ b. rank s i + (if b then 1 else 0)) e ∙ (let z : rank s i + 0 ≡ rank s i = omega arith in z)

rank-next : (s : ℕ → Bool) (i : ℕ) → rank s i ≤ rank s (suc i)
rank-next s i = ⊎_elim (λ e. omega (arith, rank-in s i e)) (λ e. omega (arith, rank-out s i e)) (cases_Bool (s i))

rank_on : (s : ℕ → Bool) (i k : ℕ) → rank s i ≤ rank s (i + k)
rank_on s i zero = let e : i ≡ i + 0 = omega arith in let P : ℕ → Type 0 = λ j. rank s i ≤ rank s j in subst P e (omega arith)
rank_on s i (suc k) =
    let e : suc (i + k) ≡ i + suc k = omega arith in
    let P : ℕ → Type 0 = λ j. rank s i ≤ rank s j in
    subst P e (let z : rank s i ≤ rank s (suc (i + k)) = omega (arith, rank_on s i k, rank-next s (i + k)) in z)

pub rank_rises : (s : ℕ → Bool) (i j : ℕ) → i ≤ j → rank s i ≤ rank s j
rank_rises s i j le =
    let e : i + (j - i) ≡ j = omega arith in
    let P : ℕ → Type 0 = λ k. rank s i ≤ rank s k in
    subst P e (rank_on s i (j - i))

-- a number of the set counts for what is above it
pub rank_above : (s : ℕ → Bool) (i j : ℕ) → s i ≡ true → i < j → rank s i < rank s j
rank_above s i j e lt = omega (arith, rank-in s i e, rank_rises s (suc i) j (omega arith))

-- so does a part that has one
pub part_rank : (s : ℕ → Bool) (row off : ℕ) → has_part s row off ≡ true → rank s (off * 2 ^ row) < rank s (off * 2 ^ row + 2 ^ row)
part_rank s zero off h =
    let e : off ≡ off * 1 = omega arith in
    let f : suc off ≡ off * 1 + 1 = omega arith in
    let P : ℕ → Type 0 = λ k. rank s k < rank s (off * 1 + 1) in
    let Q : ℕ → Type 0 = λ k. rank s off < rank s k in
    subst P e (subst Q f (let z : rank s off < rank s (suc off) = omega (arith, rank-in s off h) in z))
part_rank s (suc row) off h =
    let w = 2 ^ row in
    let double : 2 ^ suc row ≡ w * 2 = pow-suc 2 row in
    let begin : off * 2 ^ suc row ≡ 2 * off * w = ap (λ x. off * x) double ∙ (let z : off * (w * 2) ≡ 2 * off * w = omega arith in z) in
    let meet : 2 * off * w + w ≡ (2 * off + 1) * w = omega arith in
    let end : off * 2 ^ suc row + 2 ^ suc row ≡ (2 * off + 1) * w + w = omega (arith, begin, double) in
    let first : rank s (2 * off * w) ≤ rank s ((2 * off + 1) * w) = rank_rises s (2 * off * w) ((2 * off + 1) * w) (omega (arith, meet)) in
    let last : rank s ((2 * off + 1) * w) ≤ rank s ((2 * off + 1) * w + w) = rank_rises s ((2 * off + 1) * w) ((2 * off + 1) * w + w) (omega arith) in
    let all : rank s (2 * off * w) < rank s ((2 * off + 1) * w + w) =
    ⊎_elim
    (λ l. let z = part_rank s row (2 * off) l in omega (arith, z, ap (rank s) meet, last))
    (λ r. let z = part_rank s row (2 * off + 1) r in omega (arith, z, first))
    (or_cases (has_part s row (2 * off)) (has_part s row (2 * off + 1)) h) in
    let P : ℕ → Type 0 = λ k. rank s k < rank s (off * 2 ^ suc row + 2 ^ suc row) in
    let Q : ℕ → Type 0 = λ k. rank s (2 * off * w) < rank s k in
    subst P (sym begin) (subst Q (sym end) all)

-- less by a factor
cancelled : (a b w : ℕ) → a * w < b * w → a < b
cancelled a b w lt = ⊎_elim (λ l. l) (λ ge. absurd (omega (arith, lt, mul-le b w a w ge (omega arith)))) (cases_lt a b)

-- where two parts meet their halves at different numbers, the right half of the first ends before the second number, or the left half of the second
-- begins behind the first one
ends_before : (r o q p : ℕ) → r ≤ q → middle r o < middle q p → middle r o + 2 ^ r ≤ middle q p
ends_before r o q p le lt =
    let k = q - r in
    let w = 2 ^ r in
    let e : r + k ≡ q = omega arith in
    let power : 2 ^ q ≡ w * 2 ^ k = ap (λ x. 2 ^ x) (sym e) ∙ pow-add 2 r k in
    let b = (2 * p + 1) * 2 ^ k in
    let turned : (2 * p + 1) * 2 ^ q ≡ b * w = ap (λ x. (2 * p + 1) * x) power ∙ (let z : (2 * p + 1) * (w * 2 ^ k) ≡ b * w = omega arith in z) in
    let below : 2 * o + 1 < b = cancelled (2 * o + 1) b w (omega (arith, lt, turned)) in
    let more : (2 * o + 1 + 1) * w ≤ b * w = mul-le (2 * o + 1 + 1) w b w (omega arith) (omega arith) in
    omega (arith, more, turned)

begins_behind : (r o q p : ℕ) → q ≤ r → middle r o < middle q p → middle r o ≤ 2 * p * 2 ^ q
begins_behind r o q p le lt =
    let k = r - q in
    let w = 2 ^ q in
    let e : q + k ≡ r = omega arith in
    let power : 2 ^ r ≡ w * 2 ^ k = ap (λ x. 2 ^ x) (sym e) ∙ pow-add 2 q k in
    let a = (2 * o + 1) * 2 ^ k in
    let turned : (2 * o + 1) * 2 ^ r ≡ a * w = ap (λ x. (2 * o + 1) * x) power ∙ (let z : (2 * o + 1) * (w * 2 ^ k) ≡ a * w = omega arith in z) in
    let below : a < 2 * p + 1 = cancelled a (2 * p + 1) w (omega (arith, lt, turned)) in
    let more : a * w ≤ 2 * p * w = mul-le a w (2 * p) w (omega arith) (omega arith) in
    omega (arith, more, turned)

same_middle_up : (r o k p : ℕ) → middle r o ≡ middle (r + suc k) p → ⊥
same_middle_up r o k p e =
    let w = 2 ^ r in
    let power : 2 ^ (r + suc k) ≡ w * 2 ^ suc k = pow-add 2 r (suc k) in
    let double : 2 ^ suc k ≡ 2 ^ k * 2 = pow-suc 2 k in
    let b = (2 * p + 1) * 2 ^ k in
    let turned : (2 * p + 1) * 2 ^ (r + suc k) ≡ 2 * b * w = ap (λ x. (2 * p + 1) * x) (power ∙ ap (λ x. w * x) double)
    ∙ (let z : (2 * p + 1) * (w * (2 ^ k * 2)) ≡ 2 * b * w = omega arith in z) in
    let one = same_from_place (2 * o + 1) 0 (2 * b) 0 w (pow_pos r) (pow_pos r) (omega (arith, e, turned)) in
    omega (arith, one.0)

-- no two parts meet their halves at one number
pub middle_one : (r o q p : ℕ) → middle r o ≡ middle q p → (r ≡ q) × (o ≡ p)
middle_one r o q p e =
    ⊎_elim
    (λ same.
    let w = 2 ^ r in
    let f : (2 * o + 1) * w ≡ (2 * p + 1) * w = e ∙ ap (λ k. (2 * p + 1) * 2 ^ k) (sym same) in
    let one = same_from_place (2 * o + 1) 0 (2 * p + 1) 0 w (pow_pos r) (pow_pos r) (omega (arith, f)) in
    (same, omega (arith, one.0)))
    (λ other. ⊎_elim
    (λ lt.
    let k = q - suc r in
    let f : q ≡ r + suc k = omega arith in
    absurd (same_middle_up r o k p (e ∙ ap (λ x. middle x p) f)))
    (λ gt.
    let k = r - suc q in
    let f : r ≡ q + suc k = omega arith in
    absurd (same_middle_up q p k o (sym e ∙ ap (λ x. middle x o) f))) other)
    (cases_order r q)

-- the numbers of a branch's halves count
pub right_rank : (s : ℕ → Bool) (r o : ℕ) → IsBranch s r o → rank s (middle r o) < rank s (middle r o + 2 ^ r)
right_rank s r o b = part_rank s r (2 * o + 1) b.right

pub left_rank : (s : ℕ → Bool) (r o : ℕ) → IsBranch s r o → rank s (2 * o * 2 ^ r) < rank s (middle r o)
left_rank s r o b =
    let e : 2 * o * 2 ^ r + 2 ^ r ≡ middle r o = omega arith in
    let P : ℕ → Type 0 = λ k. rank s (2 * o * 2 ^ r) < rank s k in
    subst P e (part_rank s r (2 * o) b.left)

meet_apart : (s : ℕ → Bool) (r o q p : ℕ) → IsBranch s r o → IsBranch s q p → middle r o < middle q p → rank s (middle r o) < rank s (middle q p)
meet_apart s r o q p a b lt =
    ⊎_elim
    (λ low.
    let first = right_rank s r o a in
    let on = rank_rises s (middle r o + 2 ^ r) (middle q p) (ends_before r o q p (omega arith) lt) in
    omega (arith, first, on))
    (λ high.
    let first = rank_rises s (middle r o) (2 * p * 2 ^ q) (begins_behind r o q p high lt) in
    let on = left_rank s q p b in
    omega (arith, first, on))
    (cases_lt r q)

-- each gap between two numbers of a set next to each other is that of one part
pub branch_one : (s : ℕ → Bool) (r o q p : ℕ) → IsBranch s r o → IsBranch s q p → rank s (middle r o) ≡ rank s (middle q p) → (r ≡ q) × (o ≡ p)
branch_one s r o q p a b e =
    ⊎_elim (λ same. middle_one r o q p same) (λ other. ⊎_elim
    (λ lt. let z = meet_apart s r o q p a b lt in absurd (omega (arith, z, e)))
    (λ gt. let z = meet_apart s q p r o b a gt in absurd (omega (arith, z, e))) other) (cases_order (middle r o) (middle q p))

-- ---- parts of two sets

pub part_same : (s t : ℕ → Bool) (row off : ℕ) → ((i : ℕ) → i / 2 ^ row ≡ off → t i ≡ s i) → has_part t row off ≡ has_part s row off
part_same s t zero off same = same off (omega arith)
part_same s t (suc row) off same =
    ap₂ (λ p q. p || q)
    (part_same s t row (2 * off) (λ i e. same i (omega (arith, parts-suc i row, e))))
    (part_same s t row (2 * off + 1) (λ i e. same i (omega (arith, parts-suc i row, e))))

-- a set that differs at one number has the same of each part without it
pub part_other : (s t : ℕ → Bool) (number row off : ℕ) → ((i : ℕ) → i ≢ number → t i ≡ s i) → number / 2 ^ row ≢ off
    → has_part t row off ≡ has_part s row off
part_other s t number row off same other =
    part_same s t row off (λ i e. same i (λ z. other (ap (λ k. k / 2 ^ row) (sym z) ∙ e)))

pub part_subset : (s t : ℕ → Bool) (row off : ℕ) → ((i : ℕ) → s i ≡ true → t i ≡ true) → has_part s row off ≡ true → has_part t row off ≡ true
part_subset s t zero off sub h = sub off h
part_subset s t (suc row) off sub h =
    ⊎_elim
    (λ l. or_left _ _ (part_subset s t row (2 * off) sub l))
    (λ r. or_right _ _ (part_subset s t row (2 * off + 1) sub r))
    (or_cases (has_part s row (2 * off)) (has_part s row (2 * off + 1)) h)

pub part_none : (s t : ℕ → Bool) (row off : ℕ) → ((i : ℕ) → s i ≡ true → t i ≡ true) → has_part t row off ≡ false → has_part s row off ≡ false
part_none s t row off sub none =
    ⊎_elim (λ h. absurd (true≢false (sym (part_subset s t row off sub h) ∙ none))) (λ e. e) (cases_Bool (has_part s row off))

-- the parts that have a number of the set
pub part_with : (s : ℕ → Bool) (i row : ℕ) → s i ≡ true → has_part s row (i / 2 ^ row) ≡ true
part_with s i zero h = ap s (let z : i / 1 ≡ i = omega arith in z) ∙ h
part_with s i (suc row) h =
    let up = parts-suc i row in
    let below = part_with s i row h in
    ⊎_elim
    (λ even. or_left _ _ (ap (has_part s row) (let z : 2 * (i / 2 ^ suc row) ≡ i / 2 ^ row = omega (arith, up, even) in z) ∙ below))
    (λ odd. or_right _ _ (ap (has_part s row) (let z : 2 * (i / 2 ^ suc row) + 1 ≡ i / 2 ^ row = omega (arith, up, odd) in z) ∙ below))
    (by_parity (i / 2 ^ row))
  where
    by_parity : (n : ℕ) → (n % 2 ≡ 0) ⊎ (n % 2 ≡ 1)
    by_parity n = ⊎_elim (λ e. inl e) (λ ne. inr (omega (arith, ne))) (cases_eq (n % 2) 0)

-- ---- sets that differ at one number

-- up to there the counts are the same
pub rank_low : (s t : ℕ → Bool) (number : ℕ) → ((i : ℕ) → i ≢ number → t i ≡ s i) → (j : ℕ) → j ≤ number → rank t j ≡ rank s j
rank_low s t number same zero le = refl
rank_low s t number same (suc j) le =
    let other : j ≢ number = λ e. let z : ⊥ = omega (arith, e) in z in
    ap₂ (λ n b. n + (if b then 1 else 0)) (rank_low s t number same j (omega arith)) (same j other)

-- behind it the set that has it counts one more
pub rank_high : (s t : ℕ → Bool) (number : ℕ) → ((i : ℕ) → i ≢ number → t i ≡ s i) → s number ≡ false → t number ≡ true → (j : ℕ) → number < j
    → rank t j ≡ rank s j + 1
rank_high s t number same out come zero lt = absurd (omega arith)
rank_high s t number same out come (suc j) lt =
    ⊎_elim
    (λ e.
    let low = rank_low s t number same j (omega (arith, e)) in
    omega (arith, low, rank-in t j (ap t e ∙ come), rank-out s j (ap s e ∙ out)))
    (λ ne.
    let before = rank_high s t number same out come j (omega (arith, ne)) in
    let step : rank t (suc j) ≡ rank t j + (if s j then 1 else 0) = ap (λ b. rank t j + (if b then 1 else 0)) (same j ne) in
    omega (arith, before, step))
    (cases_eq j number)

-- nothing is counted behind the last number of a set
pub rank_most : (s : ℕ → Bool) (last : ℕ) → ((i : ℕ) → s i ≡ true → i < last) → (j : ℕ) → rank s j ≤ rank s last
rank_most s last below zero = omega arith
rank_most s last below (suc j) =
    ⊎_elim
    (λ low. rank_rises s (suc j) last low)
    (λ high.
    let out : s j ≡ false = ⊎_elim (λ e. absurd (omega (arith, below j e, high))) (λ e. e) (cases_Bool (s j)) in
    omega (arith, rank_most s last below j, rank-out s j out))
    (cases_lt j last)

-- each number below one of a set that has them all counts
pub rank_full : (s : ℕ → Bool) (n : ℕ) → ((i : ℕ) → i < n → s i ≡ true) → rank s n ≡ n
rank_full s zero all = refl
rank_full s (suc n) all = omega (arith, rank-in s n (all n (omega arith)), rank_full s n (λ i lt. all i (omega (arith, lt))))

-- and so does each part that begins below it
pub part_full : (s : ℕ → Bool) (row off : ℕ) → s (off * 2 ^ row) ≡ true → has_part s row off ≡ true
part_full s row off h =
    let whole : off * 2 ^ row ≡ off * 2 ^ row + 0 = omega arith in
    ap (has_part s row) (sym (ap (λ x. x / 2 ^ row) whole ∙ div-mul-add off (2 ^ row) 0 (pow_pos row))) ∙ part_with s (off * 2 ^ row) row h
