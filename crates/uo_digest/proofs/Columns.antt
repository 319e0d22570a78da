-- The exclusive or of a text is that of its end behind that of its front.
use Rattle.std.proofs.Common.{◌≡◌, ℕ, suc, ◌+◌, ◌%◌, Bool, List, [], ◌∷◌, ◌++◌, length, bit_xor, filter, fold, refl, sym, ap, ◌∙◌, inl, inr, arith}
use Rattle.std.proofs.lemmas.Bool.{cases_Bool}
use Rattle.std.specs.Prelude.{◌==◌}
use Rattle.std.specs.List.{enumerate_from}
use Rattle.uo_digest.specs.XorFold.{xor_at, xor_behind}

abbrev mixed : ℕ → ℕ × ℕ → ℕ
mixed sum part = bit_xor sum part.1

abbrev meets : ℕ → ℕ × ℕ → Bool
meets j part = part.0 % 32 == j

abbrev meets_behind : (taken j : ℕ) → ℕ × ℕ → Bool
meets_behind taken j part = (taken % 32 + part.0 % 32) % 32 == j

-- the places are counted from the front's end on, or from the text's beginning
counted_on : (long j m start : ℕ) (text : List ℕ) →
    fold mixed start (filter (meets_behind long j) (enumerate_from m text)) ≡ fold mixed start (filter (meets j) (enumerate_from (long + m) text))
counted_on long j m start [] = refl
counted_on long j m start (b ∷ text) =
    let same : (long % 32 + m % 32) % 32 ≡ (long + m) % 32 = omega arith in
    let one : long + m + 1 ≡ long + (m + 1) = omega arith in
    rw (same, one)
    elim (cases_Bool ((long + m) % 32 == j)) [
      | inl is ↦ rw is (counted_on long j (m + 1) (bit_xor start b) text)
      | inr is ↦ rw is (counted_on long j (m + 1) start text)
    ]

in_two : (j n start : ℕ) (front text : List ℕ) →
    fold mixed start (filter (meets j) (enumerate_from n (front ++ text))) ≡ fold mixed (fold mixed start (filter (meets j) (enumerate_from n front)))
    (filter (meets j) (enumerate_from (n + length front) text))
in_two j n start [] text = let e : n + 0 ≡ n = omega arith in rw e refl
in_two j n start (b ∷ front) text =
    let e : n + 1 + length front ≡ n + suc (length front) = omega arith in
    rw (← e)
    elim (cases_Bool (n % 32 == j)) [
      | inl is ↦ rw is (in_two j (n + 1) (bit_xor start b) front text)
      | inr is ↦ rw is (in_two j (n + 1) start front text)
    ]

pub behind_front : (front text : List ℕ) (j : ℕ) → xor_behind (xor_at front j) (length front) text j ≡ xor_at (front ++ text) j
behind_front front text j =
    let e : length front + 0 ≡ 0 + length front = omega arith in
    counted_on (length front) j 0 (xor_at front j) text
    ∙ ap (λ n. fold mixed (xor_at front j) (filter (meets j) (enumerate_from n text))) e
    ∙ sym (in_two j 0 0 front text)
