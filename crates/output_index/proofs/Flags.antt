-- Flags that are the bits of words.
use Rattle.std.proofs.Common.{◌≡◌, ◌≢◌, ℕ, zero, suc, ◌+◌, ◌-◌, ◌*◌, ◌/◌, ◌%◌, ◌<◌, Bool, true, false, List, [], ◌∷◌, ◌++◌, map, length}
use Rattle.std.proofs.Common.{get_or, set, take, refl, sym, ap, ap₂, ◌∙◌, ⊎_elim, arith}
use Rattle.std.specs.Prelude.{◌==◌, if◌then◌else◌}
use Rattle.std.specs.List.{range_with_len}
use Rattle.std.proofs.lemmas.Bool.{cases_eq, cases_lt}
use Rattle.std.proofs.lemmas.List.{get_or-set_same, get_or-set_other, get_or_past, length-set, same_lists}
use Rattle.std.proofs.lemmas.List.FromFn.{get_or-map-range_with_len, length-map-range_with_len, take-map-range_with_len, map-range_with_len_more}
use Rattle.std.proofs.lemmas.Nat.Bits.{bit_at-zero}
use Rattle.uo_base.specs.Bits.{is_bit, rank}
use Rattle.output_index.specs.NumberSet.{is_in, count, flags_of}

-- ---- flags

pub flags-len : (words : List ℕ) → length (flags_of words) ≡ 256
flags-len words = length-map-range_with_len (is_in words) 0 256

pub flag_at : (words : List ℕ) (i : ℕ) (d : Bool) → i < 256 → get_or (flags_of words) i d ≡ is_in words i
flag_at words i d h = get_or-map-range_with_len (is_in words) 0 256 i i d h (omega arith)

-- a word with one bit changed
pub flags_set : (words : List ℕ) (n word : ℕ) (flag : Bool) → length words ≡ 4 → n < 256 → is_bit word (n % 64) ≡ flag
    → ((i : ℕ) → i ≢ n % 64 → is_bit word i ≡ is_bit (get_or words (n / 64) 0) i)
    → flags_of (set words (n / 64) word) ≡ set (flags_of words) n flag
flags_set words n word flag len h here others =
    same_lists (flags_of new) (set (flags_of words) n flag) (flags-len new ∙ sym (length-set (flags_of words) n flag ∙ flags-len words)) each
  where
    new : List ℕ
    new = set words (n / 64) word

    at : n / 64 < length words
    at = omega (arith, len, h)

    moved : (k : ℕ) → k < 256 → k ≢ n → is_in new k ≡ is_in words k
    moved k lt ne =
        ⊎_elim
        (λ same. ap (λ j. is_bit (get_or new j 0) (k % 64)) same
        ∙ (ap (λ w. is_bit w (k % 64)) (get_or-set_same words (n / 64) word 0 at)
        ∙ (others (k % 64) (λ e. ne (omega (arith, e, same))) ∙ ap (λ j. is_bit (get_or words j 0) (k % 64)) (sym same))))
        (λ other. ap (λ w. is_bit w (k % 64)) (get_or-set_other words (n / 64) (k / 64) word 0 other))
        (cases_eq (k / 64) (n / 64))

    each : (k : ℕ) (d : Bool) → k < length (flags_of new) → get_or (flags_of new) k d ≡ get_or (set (flags_of words) n flag) k d
    each k d lt =
        let low : k < 256 = omega (arith, lt, flags-len new) in
        ⊎_elim
        (λ same. ap (λ j. get_or (flags_of new) j d) same
        ∙ (flag_at new n d h ∙ (ap (λ w. is_bit w (n % 64)) (get_or-set_same words (n / 64) word 0 at) ∙ here))
        ∙ sym (ap (λ j. get_or (set (flags_of words) n flag) j d) same
        ∙ get_or-set_same (flags_of words) n flag d (omega (arith, h, flags-len words))))
        (λ other. flag_at new k d low ∙ (moved k low other
        ∙ sym (get_or-set_other (flags_of words) n k flag d other ∙ flag_at words k d low)))
        (cases_eq k n)

-- ---- counting

pub count-more : (flags : List Bool) (flag : Bool) → count (flags ++ flag ∷ []) ≡ count flags + (if flag then 1 else 0)
count-more [] true = refl
count-more [] false = refl
count-more (true ∷ flags) flag = let r = count-more flags flag in omega (arith, r)
count-more (false ∷ flags) flag = count-more flags flag

count-made : (s : ℕ → Bool) (n : ℕ) → count (map s (range_with_len 0 n)) ≡ rank s n
count-made s zero = refl
count-made s (suc n) =
    let e : suc n ≡ n + 1 = omega arith in
    let more = ap (λ k. count (map s (range_with_len 0 k))) e ∙ ap count (map-range_with_len_more s 0 n n (omega arith)) in
    let one = count-more (map s (range_with_len 0 n)) (s n) in
    let low = count-made s n in
    omega (arith, more, one, low)

pub count_flags : (words : List ℕ) (n : ℕ) → n < 256 → rank (is_in words) n ≡ count (take n (flags_of words))
count_flags words n h = sym (ap count (take-map-range_with_len (is_in words) 0 256 n (omega (arith, h))) ∙ count-made (is_in words) n)

-- word by word
count-split : (s t : ℕ → Bool) (a m : ℕ) → ((i : ℕ) → i < m → s (a + i) ≡ t i) → rank s (a + m) ≡ rank s a + rank t m
count-split s t a zero same = let z : a + 0 ≡ a = omega arith in let r = ap (rank s) z in omega (arith, r)
count-split s t a (suc m) same =
    let e : a + suc m ≡ suc (a + m) = omega arith in
    let r = count-split s t a m (λ i lt. same i (omega (arith, lt))) in
    let last = ap (λ b. rank s (a + m) + (if b then 1 else 0)) (same m (omega arith)) in
    let all = ap (rank s) e in
    omega (arith, all, last, r)

in_word : (words : List ℕ) (w i : ℕ) → i < 64 → is_in words (64 * w + i) ≡ is_bit (get_or words w 0) i
in_word words w i lt =
    let high : (64 * w + i) / 64 ≡ w = omega (arith, lt) in
    let low : (64 * w + i) % 64 ≡ i = omega (arith, lt) in
    ap₂ (λ h l. is_bit (get_or words h 0) l) high low

pub count_word : (words : List ℕ) (w : ℕ) → rank (is_in words) (64 * (w + 1)) ≡ rank (is_in words) (64 * w)
    + rank (is_bit (get_or words w 0)) 64
count_word words w =
    let e : 64 * (w + 1) ≡ 64 * w + 64 = omega arith in
    ap (rank (is_in words)) e ∙ count-split (is_in words) (is_bit (get_or words w 0)) (64 * w) 64 (in_word words w)

pub count_last : (words : List ℕ) (n : ℕ) → rank (is_in words) n ≡ rank (is_in words) (64 * (n / 64))
    + rank (is_bit (get_or words (n / 64) 0)) (n % 64)
count_last words n =
    let e : n ≡ 64 * (n / 64) + n % 64 = omega arith in
    ap (rank (is_in words)) e
    ∙ count-split (is_in words) (is_bit (get_or words (n / 64) 0)) (64 * (n / 64)) (n % 64) (λ i lt. in_word words (n / 64) i (omega (arith, lt)))

pub no_flags : (words : List ℕ) → ((w : ℕ) → get_or words w 0 ≡ 0) → (i : ℕ) → get_or (flags_of words) i false ≡ false
no_flags words none i =
    ⊎_elim
    (λ low. flag_at words i false low ∙ (ap (λ w. is_bit w (i % 64)) (none (i / 64)) ∙ ap (λ x. x == 1) (bit_at-zero (i % 64))))
    (λ high. get_or_past (flags_of words) i false (omega (arith, high, flags-len words)))
    (cases_lt i 256)
