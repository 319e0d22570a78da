-- The highest bit in which n and the first entry of a place of the forest differ is the place's slot.
use Rattle.std.proofs.Common.{◌≡◌, ℕ, suc, ◌+◌, ◌-◌, ◌*◌, ◌/◌, ◌%◌, ◌^◌, ◌<◌, ◌≤◌, bit_xor, sym, ap, ◌∙◌, subst, ⊎_elim, arith, eq-eqb, mod-eq_of_lt}
use Rattle.std.specs.Int.Bits.{xor_add_and}
use Rattle.std.proofs.lemmas.Nat.{and_le_l, and_le_r, xor_shr, shl-shr, shr-shr, shr_split, le-div, div_below, pow_pos}
use Rattle.std.proofs.lemmas.Bool.{cases_lt, cases_eq}
use Rattle.forest_place.specs.Forest.{InForest, IsSlotOf}
use Rattle.forest_place.proofs.Parts.{half_pow}
use Rattle.forest_place.proofs.Slots.{in_forest_iff}

-- numbers that differ in no bit
pub xor_same : (a b : ℕ) → bit_xor a b ≡ 0 → a ≡ b
xor_same a b e = omega (arith, e, xor_add_and a b, and_le_l a b, and_le_r a b)

-- numbers that differ in the lowest bit alone
xor_one : (a b : ℕ) → b ≤ a → bit_xor a b ≡ 1 → (a % 2 ≡ 1) × (b ≡ a - 1)
xor_one a b le e =
    let half : bit_xor (a / 2) (b / 2) ≡ 0 = sym (xor_shr a b 1) ∙ (let z : bit_xor a b / 2 ≡ 0 = omega (arith, e) in z) in
    let same : a / 2 ≡ b / 2 = xor_same (a / 2) (b / 2) half in
    let sum = xor_add_and a b in
    (omega (arith, same, e, sum, and_le_l a b, and_le_r a b), omega (arith, same, e, sum, and_le_l a b, and_le_r a b))

-- the first entry of a place of the forest, which a shift gives whole
first_below : (n row off : ℕ) → InForest n row off → off * 2 ^ row < n
first_below n row off h = omega (arith, (in_forest_iff n row off).0 h, pow_pos row)

first_is : (n row off : ℕ) → n < 2 ^ 40 → InForest n row off → off * 2 ^ row % 2 ^ 64 ≡ off * 2 ^ row
first_is n row off few h = mod-eq_of_lt (omega (arith, few, first_below n row off h))

pub differs : (n row off : ℕ) → n < 2 ^ 40 → InForest n row off → 0 < bit_xor n (off * 2 ^ row % 2 ^ 64)
differs n row off few h =
    ⊎_elim
    (λ e. let same = xor_same n (off * 2 ^ row % 2 ^ 64) e in absurd (omega (arith, same, first_is n row off few h, first_below n row off h)))
    (λ ne. omega (arith, ne))
    (cases_eq (bit_xor n (off * 2 ^ row % 2 ^ 64)) 0)

module _ (n row off h : ℕ) (within : InForest n row off) (least : 2 ^ h ≤ bit_xor n (off * 2 ^ row))
    (most : bit_xor n (off * 2 ^ row) < 2 * 2 ^ h) where
  abbrev a : ℕ
  a = off * 2 ^ row

  -- from row h up the first entry is one part before the last
  last_but_one : (n / 2 ^ h % 2 ≡ 1) × (a / 2 ^ h ≡ n / 2 ^ h - 1)
  last_but_one =
      let one_at_least : 1 ≤ bit_xor n a / 2 ^ h = le-div 1 (bit_xor n a) (2 ^ h) (pow_pos h) (omega (arith, least)) in
      let one_at_most = div_below (bit_xor n a) (2 ^ h) 2 (pow_pos h) most in
      let split = shr_split a h in
      let le = le-div (a / 2 ^ h) n (2 ^ h) (pow_pos h) (omega (arith, first_below n row off within, split)) in
      xor_one (n / 2 ^ h) (a / 2 ^ h) le (sym (xor_shr n a h) ∙ (let z : bit_xor n a / 2 ^ h ≡ 1 = omega (arith, one_at_least, one_at_most) in z))

  -- so the place is no higher
  reaches : row ≤ h
  reaches =
      ⊎_elim
      (λ lt.
      let k = row - suc h in
      let up : h + suc k ≡ row = omega arith in
      let halves : n / 2 ^ h / 2 ≡ a / 2 ^ h / 2 = omega (arith, last_but_one.0, last_but_one.1) in
      let same : n / 2 ^ h / 2 ^ suc k ≡ a / 2 ^ h / 2 ^ suc k =
      half_pow (n / 2 ^ h) k ∙ (ap (λ x. x / 2 ^ k) halves ∙ sym (half_pow (a / 2 ^ h) k)) in
      let there : n / 2 ^ row ≡ a / 2 ^ row = ap (λ x. n / 2 ^ x) (sym up)
      ∙ (sym (shr-shr n h (suc k)) ∙ (same ∙ (shr-shr a h (suc k) ∙ ap (λ x. a / 2 ^ x) up))) in
      absurd (omega (arith, within, there, shl-shr off row)))
      (λ le. le)
      (cases_lt h row)

  slot_from_highest : IsSlotOf n row off h
  slot_from_highest =
      let up : row + (h - row) ≡ h = omega (arith, reaches) in
      let here : off / 2 ^ (h - row) ≡ a / 2 ^ h = ap (λ x. x / 2 ^ (h - row)) (sym (shl-shr off row))
      ∙ (shr-shr a row (h - row) ∙ ap (λ x. a / 2 ^ x) up) in
      record { slot = eq-eqb _ _ last_but_one.0; up = reaches; beneath = here ∙ last_but_one.1 }

pub slot_from_log : (n row off h : ℕ) → n < 2 ^ 40 → InForest n row off → 2 ^ h ≤ bit_xor n (off * 2 ^ row % 2 ^ 64)
    → bit_xor n (off * 2 ^ row % 2 ^ 64) < 2 * 2 ^ h → IsSlotOf n row off h
slot_from_log n row off h few within least most =
    let e = first_is n row off few within in
    slot_from_highest n row off h within (subst (λ x. 2 ^ h ≤ bit_xor n x) e least) (subst (λ x. bit_xor n x < 2 * 2 ^ h) e most)
