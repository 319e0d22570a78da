-- Sets that are the bits of a number.
use Rattle.std.proofs.Common.{◌≡◌, ℕ, zero, suc, ◌+◌, ◌-◌, ◌*◌, ◌/◌, ◌%◌, ◌^◌, ◌<◌, ◌≤◌, true, false, refl, sym, ap, ap₂, ◌∙◌, subst, ⊎_elim}
use Rattle.std.proofs.Common.{arith}
use Rattle.std.proofs.Common.{pow-suc, mod-eq_of_lt}
use Rattle.std.specs.Prelude.{◌==◌, ◌||◌, not, bit_and}
use Rattle.std.proofs.lemmas.Bool.{cases_lt, cases_eq, eq-eqb, ne_eqb, false≢true}
use Rattle.std.proofs.lemmas.Nat.{pow_pos, shr-shr, mod-pow-add, mod_below, and_mask, ones_cat, ones-le, one_shl, field_of}
use Rattle.std.proofs.lemmas.Nat.Bits.{bit_at_above, bit_at-zero, ones_shr}
use Rattle.std.proofs.Math.Pow.{mod-mod-pow}
use lib.Count.{ones}
use Rattle.uo_base.proofs.Bits.{rank_is}
use Rattle.forest_place.specs.Forest.{InForest}
use Rattle.forest_place.proofs.Slots.{in_forest_iff}
use Rattle.live_forest.specs.Sets.{is_bit, has_part, rank}

one_or_none : (b : ℕ) → b < 2 → (b == 1) ≡ not (b == 0)
one_or_none zero h = refl
one_or_none (suc zero) h = refl
one_or_none (suc (suc b)) h = elim (let z : ⊥ = omega arith in z) [ ]

is_some_number : (n : ℕ) → 0 < n → not (n == 0) ≡ true
is_some_number n some = ap not (ne_eqb n 0 (λ e. omega (arith, e, some)))

pub is_no_number : (n : ℕ) → n ≡ 0 → not (n == 0) ≡ false
is_no_number n none = ap not (eq-eqb n 0 none)

-- a number in two parts is 0 where both are
either : (low high power whole : ℕ) → 0 < power → whole ≡ high * power + low → (not (low == 0) || not (high == 0)) ≡ not (whole == 0)
either low high power whole some e =
    ⊎_elim
    (λ l. ap (λ b. b || not (high == 0)) (is_no_number low l) ∙ ⊎_elim
    (λ h. is_no_number high h ∙ sym (is_no_number whole (e ∙ ap₂ (λ x y. x * power + y) h l ∙ (let z : 0 * power + 0 ≡ 0 = omega arith in z))))
    (λ h.
    let more : power ≤ high * power = by_high high (λ z. h z) in
    is_some_number high (omega (arith, h)) ∙ sym (is_some_number whole (omega (arith, e, more, some)))) (cases_eq high 0))
    (λ l.
    ap (λ b. b || not (high == 0)) (is_some_number low (omega (arith, l))) ∙ sym (is_some_number whole (omega (arith, l, e))))
    (cases_eq low 0)
  where
    by_high : (h : ℕ) → (h ≡ 0 → ⊥) → power ≤ h * power
    by_high zero ne = absurd (ne refl)
    by_high (suc h) ne = omega arith

-- a part has a bit where the bits of its range are not all 0
pub has_part_is : (n row off : ℕ) → has_part (is_bit n) row off ≡ not (n / 2 ^ (off * 2 ^ row) % 2 ^ 2 ^ row == 0)
has_part_is n zero off =
    let e : off ≡ off * 1 = omega arith in
    let small : n / 2 ^ off % 2 < 2 = omega arith in
    one_or_none (n / 2 ^ off % 2) small ∙ ap (λ k. not (n / 2 ^ k % 2 == 0)) e
has_part_is n (suc row) off =
    let w = 2 ^ row in
    let a = off * 2 ^ suc row in
    let double : 2 ^ suc row ≡ w * 2 = pow-suc 2 row in
    let two : w * 2 ≡ w + w = omega arith in
    let begin : a ≡ off * (w * 2) = ap (λ x. off * x) double in
    let left : 2 * off * w ≡ a = omega (arith, begin) in
    let right : (2 * off + 1) * w ≡ a + w = omega (arith, begin) in
    let x = n / 2 ^ a in
    let whole : x % 2 ^ 2 ^ suc row ≡ (x / 2 ^ w % 2 ^ w) * 2 ^ w + x % 2 ^ w = ap (λ k. x % 2 ^ k) (double ∙ two) ∙ mod-pow-add x w w in
    ap₂ (λ p q. p || q)
    (has_part_is n row (2 * off) ∙ ap (λ k. not (n / 2 ^ k % 2 ^ w == 0)) left)
    (has_part_is n row (2 * off + 1) ∙ ap (λ k. not (n / 2 ^ k % 2 ^ w == 0)) right ∙ ap (λ y. not (y % 2 ^ w == 0)) (sym (shr-shr n a w)))
    ∙ either (x % 2 ^ w) (x / 2 ^ w % 2 ^ w) (2 ^ w) (x % 2 ^ 2 ^ suc row) (pow_pos w) whole

-- the bits of the halves of a part, of those of the part
pub halves_bits : (n row off both : ℕ) → both ≡ n / 2 ^ (off * 2 ^ suc row) % 2 ^ 2 ^ suc row
    → (both % 2 ^ 2 ^ row ≡ n / 2 ^ (2 * off * 2 ^ row) % 2 ^ 2 ^ row) × (both / 2 ^ 2 ^ row ≡ n / 2 ^ ((2 * off + 1) * 2 ^ row) % 2 ^ 2 ^ row)
halves_bits n row off both is =
    let w = 2 ^ row in
    let a = off * 2 ^ suc row in
    let double : 2 ^ suc row ≡ w * 2 = pow-suc 2 row in
    let two : w * 2 ≡ w + w = omega arith in
    let begin : a ≡ off * (w * 2) = ap (λ x. off * x) double in
    let left : a ≡ 2 * off * w = omega (arith, begin) in
    let right : a + w ≡ (2 * off + 1) * w = omega (arith, begin) in
    let x = n / 2 ^ a in
    let whole : both ≡ x % 2 ^ (w + w) = is ∙ ap (λ k. x % 2 ^ k) (double ∙ two) in (
      ap (λ y. y % 2 ^ w) whole ∙ mod-mod-pow x w w ∙ ap (λ k. n / 2 ^ k % 2 ^ w) left,
      ap (λ y. y / 2 ^ w) whole ∙ field_of x w w ∙ ap (λ y. y % 2 ^ w) (shr-shr n a w) ∙ ap (λ k. n / 2 ^ k % 2 ^ w) right,
    )

-- there are up to 32 numbers in a half of a part of up to 64
pub width_few : (row : ℕ) → row < 6 → 2 ^ row ≤ 32
width_few zero low = omega arith
width_few (suc zero) low = omega arith
width_few (suc (suc zero)) low = omega arith
width_few (suc (suc (suc zero))) low = omega arith
width_few (suc (suc (suc (suc zero)))) low = omega arith
width_few (suc (suc (suc (suc (suc zero))))) low = omega arith
width_few (suc (suc (suc (suc (suc (suc row)))))) low = absurd (omega (arith, low))

-- as the code works it out
pub part_bits : (x width : ℕ) → width ≤ 64 → bit_and x ((2 ^ 64 - 1) / 2 ^ (64 - width)) ≡ x % 2 ^ width
part_bits x width h =
    let le : 64 - width ≤ 64 = omega arith in
    let e : 64 - (64 - width) ≡ width = omega arith in
    ap (bit_and x) (ones_shr 64 (64 - width) le ∙ ap (λ k. 2 ^ k - 1) e) ∙ and_mask x width

pub rank_upto : (n i : ℕ) → rank (is_bit n) i ≤ i
rank_upto n i = omega (arith, rank_is n i, ones-le i (n % 2 ^ i) (mod_below n (2 ^ i) (pow_pos i)))

-- of two halves with 64 bits each
pub rank_low_half : (n i : ℕ) → i ≤ 64 → rank (is_bit (n % 2 ^ 64)) i ≡ rank (is_bit n) i
rank_low_half n i le =
    let e : 64 - i + i ≡ 64 = omega (arith, le) in
    rank_is (n % 2 ^ 64) i ∙ ap (λ k. ones (n % 2 ^ k % 2 ^ i)) (sym e) ∙ ap ones (mod-mod-pow n (64 - i) i) ∙ sym (rank_is n i)

pub rank_high_half : (n i : ℕ) → 64 ≤ i → ones (n % 2 ^ 64) + rank (is_bit (n / 2 ^ 64)) (i - 64) ≡ rank (is_bit n) i
rank_high_half n i ge =
    let k = i - 64 in
    let e : k + 64 ≡ i = omega (arith, ge) in
    let parts : n % 2 ^ (k + 64) ≡ n / 2 ^ 64 % 2 ^ k * 2 ^ 64 + n % 2 ^ 64 = mod-pow-add n k 64 in
    let counted = ones_cat 64 (n / 2 ^ 64 % 2 ^ k) (n % 2 ^ 64) (mod_below n (2 ^ 64) (pow_pos 64)) in
    let all : rank (is_bit n) i ≡ ones (n / 2 ^ 64 % 2 ^ k) + ones (n % 2 ^ 64) =
    rank_is n i ∙ ap (λ j. ones (n % 2 ^ j)) (sym e) ∙ ap ones parts ∙ counted in
    omega (arith, all, rank_is (n / 2 ^ 64) k)

-- a part ends within the 128 numbers
pub part_ends : (row off : ℕ) → row ≤ 7 → InForest 128 row off → (off + 1) * 2 ^ row ≤ 128
part_ends row off low h = (in_forest_iff 128 row off).0 h

-- the 64 bits among which one is
pub half_low : (n i : ℕ) → i < 64 → n % 2 ^ 64 ≡ n / 2 ^ (i / 64 * 64) % 2 ^ 64
half_low n i lt =
    let none : i / 64 * 64 ≡ 0 = omega (arith, lt) in
    let whole : n / 1 ≡ n = omega arith in
    ap (λ x. x % 2 ^ 64) (sym whole) ∙ ap (λ k. n / 2 ^ k % 2 ^ 64) (sym none)

pub half_high : (n i : ℕ) → n < 2 ^ 128 → 64 ≤ i → i < 128 → n / 2 ^ 64 ≡ n / 2 ^ (i / 64 * 64) % 2 ^ 64
half_high n i few ge lt =
    let one : i / 64 * 64 ≡ 64 = omega (arith, ge, lt) in
    sym (mod-eq_of_lt (omega (arith, few))) ∙ ap (λ k. n / 2 ^ k % 2 ^ 64) (sym one)

-- a part of up to 64 numbers is within one half
pub half_fits : (row off : ℕ) → row < 7 → (off + 1) * 2 ^ row ≤ 128 → off * 2 ^ row % 64 + 2 ^ row ≤ 64
half_fits zero off low h = omega (arith, h)
half_fits (suc zero) off low h = omega (arith, h)
half_fits (suc (suc zero)) off low h = omega (arith, h)
half_fits (suc (suc (suc zero))) off low h = omega (arith, h)
half_fits (suc (suc (suc (suc zero)))) off low h = omega (arith, h)
half_fits (suc (suc (suc (suc (suc zero))))) off low h = omega (arith, h)
half_fits (suc (suc (suc (suc (suc (suc zero)))))) off low h = omega (arith, h)
half_fits (suc (suc (suc (suc (suc (suc (suc row))))))) off low h = absurd (omega (arith, low))

-- the lowest bits of a range
pub range_bits : (n all b w : ℕ) → b + w ≤ all → n % 2 ^ all / 2 ^ b % 2 ^ w ≡ n / 2 ^ b % 2 ^ w
range_bits n all b w le =
    let e : all - b + b ≡ all = omega (arith, le) in
    let f : all - b - w + w ≡ all - b = omega (arith, le) in
    ap (λ k. n % 2 ^ k / 2 ^ b % 2 ^ w) (sym e) ∙ ap (λ x. x % 2 ^ w) (field_of n (all - b) b)
    ∙ ap (λ k. n / 2 ^ b % 2 ^ k % 2 ^ w) (sym f) ∙ mod-mod-pow (n / 2 ^ b) (all - b - w) w

-- the bits of a part of up to 64 numbers
pub bits_are : (n row off word : ℕ) → row < 7 → InForest 128 row off → word ≡ n / 2 ^ (off * 2 ^ row % 2 ^ 64 / 64 * 64) % 2 ^ 64
    → bit_and (word / 2 ^ (off * 2 ^ row % 2 ^ 64 % 64)) ((2 ^ 64 - 1) / 2 ^ (64 - 1 * 2 ^ row % 2 ^ 32)) ≡ n / 2 ^ (off * 2 ^ row) % 2 ^ 2 ^ row
bits_are n row off word low h is =
    let ends = part_ends row off (omega (arith, low)) h in
    let start = off * 2 ^ row in
    let few : start < 2 ^ 64 = omega (arith, ends) in
    let begin : start % 2 ^ 64 ≡ start = mod-eq_of_lt few in
    let lt : row < 32 = omega (arith, low) in
    let width : 1 * 2 ^ row % 2 ^ 32 ≡ 2 ^ row = one_shl row 32 lt in
    let fits = half_fits row off low ends in
    let wide : 2 ^ row ≤ 64 = omega (arith, fits) in
    let at : start / 64 * 64 + start % 64 ≡ start = omega arith in
    let word' : word ≡ n / 2 ^ (start / 64 * 64) % 2 ^ 64 = is ∙ ap (λ k. n / 2 ^ (k / 64 * 64) % 2 ^ 64) begin in
    ap₂ (λ a b. bit_and (word / 2 ^ (a % 64)) ((2 ^ 64 - 1) / 2 ^ (64 - b))) begin width
    ∙ part_bits (word / 2 ^ (start % 64)) (2 ^ row) wide ∙ ap (λ x. x / 2 ^ (start % 64) % 2 ^ 2 ^ row) word'
    ∙ range_bits (n / 2 ^ (start / 64 * 64)) 64 (start % 64) (2 ^ row) fits
    ∙ ap (λ x. x % 2 ^ 2 ^ row) (shr-shr n (start / 64 * 64) (start % 64) ∙ ap (λ k. n / 2 ^ k) at)

pub some_bits : (n row off here : ℕ) → here ≡ n / 2 ^ (off * 2 ^ row) % 2 ^ 2 ^ row → not (here == 0) ≡ has_part (is_bit n) row off
some_bits n row off here is = ap (λ x. not (x == 0)) is ∙ sym (has_part_is n row off)

-- all 128 bits
pub all_start : (row off : ℕ) → InForest 128 row off → row ≡ 7 → off * 2 ^ row ≡ 0
all_start row off h e =
    let one : InForest 128 7 off = subst (λ k. InForest 128 k off) e h in
    ap (λ k. off * 2 ^ k) e ∙ (let z : off * 2 ^ 7 ≡ 0 = omega (arith, one) in z)

pub all_bits : (n row off : ℕ) → n < 2 ^ 128 → InForest 128 row off → row ≡ 7 → n ≡ n / 2 ^ (off * 2 ^ row) % 2 ^ 2 ^ row
all_bits n row off few h e =
    let none = all_start row off h e in
    let whole : n / 1 ≡ n = omega arith in
    sym (ap₂ (λ k r. n / 2 ^ k % 2 ^ 2 ^ r) none e ∙ ap (λ x. x % 2 ^ 128) whole ∙ mod-eq_of_lt few)

-- a number has no bits but its own
pub last_below : (n number : ℕ) → n < 2 ^ 128 → ((i : ℕ) → i < 128 → is_bit n i ≡ true → i < number) → (i : ℕ) → is_bit n i ≡ true → i < number
last_below n number few last i e =
    ⊎_elim
    (λ low. last i low e)
    (λ high. absurd (false≢true (ap (λ x. x == 1) (sym (bit_at_above n 128 i few high)) ∙ e)))
    (cases_lt i 128)

pub no_bits : (i : ℕ) → is_bit 0 i ≡ false
no_bits i = ap (λ x. x == 1) (bit_at-zero i)

-- the count below a number, from the count in the half that has it
pub rank_in_low : (n i half k : ℕ) → i < 64 → half ≡ n / 2 ^ (i / 64 * 64) % 2 ^ 64 → k ≡ rank (is_bit half) (i % 64) → k ≡ rank (is_bit n) i
rank_in_low n i half k lt is counted =
    let at : i % 64 ≡ i = omega (arith, lt) in
    counted ∙ ap₂ (λ b j. rank (is_bit b) j) (is ∙ sym (half_low n i lt)) at ∙ rank_low_half n i (omega (arith, lt))

pub rank_in_high : (n i half before k : ℕ) → n < 2 ^ 128 → 64 ≤ i → i < 128 → half ≡ n / 2 ^ (i / 64 * 64) % 2 ^ 64 → before ≡ ones (n % 2 ^ 64)
    → k ≡ rank (is_bit half) (i % 64) → before + k ≡ rank (is_bit n) i
rank_in_high n i half before k fits ge lt is low counted =
    let at : i % 64 ≡ i - 64 = omega (arith, ge, lt) in
    let high : k ≡ rank (is_bit (n / 2 ^ 64)) (i - 64) =
    counted ∙ ap₂ (λ b j. rank (is_bit b) j) (is ∙ sym (half_high n i fits ge lt)) at in
    ap₂ (λ a b. a + b) low high ∙ rank_high_half n i ge

-- a number all of whose bits are set
pub all_set : (n i : ℕ) → n ≡ 2 ^ 128 - 1 → i < 128 → is_bit n i ≡ true
all_set n i is lt =
    let k = 127 - i in
    let e : 128 - i ≡ suc k = omega (arith, lt) in
    let double : 2 ^ suc k ≡ 2 ^ k * 2 = pow-suc 2 k in
    let ones : n / 2 ^ i ≡ 2 ^ suc k - 1 = ap (λ x. x / 2 ^ i) is ∙ ones_shr 128 i (omega (arith, lt)) ∙ ap (λ j. 2 ^ j - 1) e in
    eq-eqb (n / 2 ^ i % 2) 1 (omega (arith, ones, double, pow_pos k))
