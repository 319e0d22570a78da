-- Places and positions.
use Rattle.std.proofs.Common.{◌≡◌, ℕ, zero, suc, ◌+◌, ◌-◌, ◌*◌, ◌/◌, ◌%◌, ◌^◌, ◌<◌, ◌≤◌, true, sym, ap, ◌∙◌, subst, ⊎_elim, arith}
use Rattle.std.proofs.Common.{List, [], ◌∷◌, length, refl, ap₂, pow-suc, bit_or, mod-eq_of_lt}
use Rattle.std.specs.Prelude.{◌↔◌, nat_lt}
use Rattle.std.proofs.Math.Nat.{le_of_mul-le-mul_right}
use Rattle.std.proofs.Math.Pow.{pow_mono}
use Rattle.std.proofs.lemmas.Nat.{pow_pos, pow_below, or_shifted, or_comm, pow-add, shl-shr}
use Rattle.std.proofs.lemmas.Bool.{cases_Bool, cases_lt, ltb-true, ltb-false, eqb-true}
use Rattle.forest_place.specs.declared.place.Place.{Place}
use Rattle.forest_place.specs.Forest.{InForest, is_slot, root_off}
use Rattle.forest_place.specs.Position.{rows, rows_within, row_start, position, positions_of, IsLow, fixed_position}
use Rattle.forest_place.specs.Places.{IsBefore, AreWithin}
use Rattle.forest_place.proofs.Before.{place_order}
use Rattle.forest_place.proofs.Listed.{has_first, within_rest}
use Rattle.forest_place.proofs.Slots.{in_forest_iff}

below_pow : (n : ℕ) → n ≤ 2 ^ n
below_pow zero = omega arith
below_pow (suc n) = rw pow-suc (let p = pow_pos n in omega (arith, below_pow n, p))

rows_room : (k n : ℕ) → n ≤ 2 ^ k → n ≤ 2 ^ rows_within k n
rows_room zero n h = h
rows_room (suc k) n h =
    ⊎_elim (λ e. rw e h) (λ e. rw e (rows_room k n (ltb-false _ _ e))) (cases_Bool (nat_lt (2 ^ k) n))

-- n entries have room in the rows
pub rows_fit : (n : ℕ) → n ≤ 2 ^ rows n
rows_fit n = rows_room n n (below_pow n)

rows_few : (k n j : ℕ) → n ≤ 2 ^ j → rows_within k n ≤ j
rows_few zero n j h = omega arith
rows_few (suc k) n j h =
    ⊎_elim
    (λ e. rw e (⊎_elim (λ lt. lt) (λ ge. let q : 2 ^ j ≤ 2 ^ k = pow_mono ge in absurd (omega (arith, q, ltb-true _ _ e))) (cases_lt k j)))
    (λ e. rw e (rows_few k n j h))
    (cases_Bool (nat_lt (2 ^ k) n))

-- and not in fewer
pub rows_least : (n j : ℕ) → n ≤ 2 ^ j → rows n ≤ j
rows_least n j h = rows_few n n j h

-- the row is the number of rows, where it has room for n and the lower rows have not
pub rows_is : (n r : ℕ) → n ≤ 2 ^ r → ((j : ℕ) → j < r → 2 ^ j < n) → rows n ≡ r
rows_is n r h below =
    let le = rows_least n r h in
    ⊎_elim (λ lt. let q = below (rows n) lt in absurd (omega (arith, q, rows_fit n))) (λ ge. omega (arith, le, ge)) (cases_lt (rows n) r)

-- a power that is not below another
pub pow_order : (i j : ℕ) → 2 ^ i < 2 ^ j → i < j
pow_order i j h = ⊎_elim (λ lt. lt) (λ ge. let q : 2 ^ j ≤ 2 ^ i = pow_mono ge in absurd (omega (arith, q, h))) (cases_lt i j)

-- the same power of two lies at or below a number, and its double above it
pub same_log : (x i j : ℕ) → 2 ^ i ≤ x → x < 2 * 2 ^ i → 2 ^ j ≤ x → x < 2 * 2 ^ j → i ≡ j
same_log x i j a b c d =
    let e : 2 ^ suc i ≡ 2 ^ i * 2 = pow-suc 2 i in
    let f : 2 ^ suc j ≡ 2 ^ j * 2 = pow-suc 2 j in
    let g = pow_order i (suc j) (omega (arith, f)) in
    let h = pow_order j (suc i) (omega (arith, e)) in
    omega (arith, g, h)

mul_one_more : (a b : ℕ) → b ≤ (a + 1) * b
mul_one_more a b = omega arith

-- a place of the forest, within rows that have room for n
pub within_top : (top n r o : ℕ) → n ≤ 2 ^ top → InForest n r o → (r ≤ top) × (o < 2 ^ (top - r))
within_top top n r o room h =
    let m = (in_forest_iff n r o).0 h in
    let le : r ≤ top = ⊎_elim (λ lt. let q : 2 ^ top < 2 ^ r = pow_below top r lt in absurd (omega (arith, m, room, q, mul_one_more o (2 ^ r))))
    (λ ge. ge) (cases_lt top r) in
    let e : top - r + r ≡ top = omega arith in
    let split : 2 ^ top ≡ 2 ^ (top - r) * 2 ^ r = ap (λ x. 2 ^ x) (sym e) ∙ pow-add 2 (top - r) r in
    let all : (o + 1) * 2 ^ r ≤ 2 ^ (top - r) * 2 ^ r = omega (arith, m, room, split) in
    let low : o + 1 ≤ 2 ^ (top - r) = le_of_mul-le-mul_right all (pow_pos r) in
    (le, omega (arith, low))

pub within_rows : (n r o : ℕ) → InForest n r o → (r ≤ rows n) × (o < 2 ^ (rows n - r))
within_rows n r o h = within_top (rows n) n r o (rows_fit n) h

-- a row of the forest over less than 2^k entries is below k
pub row_small : (n r o k : ℕ) → InForest n r o → n < 2 ^ k → r < k
row_small n r o k h lt = pow_order r k (omega (arith, (in_forest_iff n r o).0 h, mul_one_more o (2 ^ r)))

-- a slot's row is small
pub slot_small : (n r k : ℕ) → is_slot n r ≡ true → n < 2 ^ k → r < k
slot_small n r k slot lt =
    let odd : n / 2 ^ r % 2 ≡ 1 = eqb-true _ _ slot in
    let within : InForest n r (root_off n r) = omega (arith, odd) in
    row_small n r (root_off n r) k within lt

-- the places of a row, and of it and all rows above, by powers of two
pub record Spans (top r : ℕ) : Type 0 where
  pub all : 2 ^ (top + 1) ≡ 2 ^ top * 2
  pub from : 2 ^ (top + 1 - r) ≡ 2 ^ (top - r) * 2
  pub low : 2 ^ (top - r) ≤ 2 ^ top
  pub some : 0 < 2 ^ (top - r)

pub spans : (top r : ℕ) → r ≤ top → Spans top r
spans top r h = record {
  all = (let e : top + 1 ≡ suc top = omega arith in ap (λ x. 2 ^ x) e ∙ pow-suc 2 top);
  from = (let e : top + 1 - r ≡ suc (top - r) = omega arith in ap (λ x. 2 ^ x) e ∙ pow-suc 2 (top - r));
  low = pow_mono (omega arith);
  some = pow_pos (top - r);
}

-- the next row begins where a row ends
pub row_start-suc : (top r : ℕ) → r < top → row_start top (suc r) ≡ row_start top r + 2 ^ (top - r)
row_start-suc top r h =
    let s = spans top r (omega arith) in
    let c : 2 ^ (top + 1 - suc r) ≡ 2 ^ (top - r) = (let e : top + 1 - suc r ≡ top - r = omega arith in ap (λ x. 2 ^ x) e) in
    omega (arith, s.all, s.from, s.low, c)

-- the position above
pub parent-position : (top r o : ℕ) → r < top → o < 2 ^ (top - r) → bit_or ((row_start top r + o) / 2) (2 ^ top) ≡ row_start top (r + 1) + o / 2
parent-position top r o lt inside =
    let s = spans top r (omega arith) in
    let p = row_start top r + o in
    let c : 2 ^ (top + 1 - (r + 1)) ≡ 2 ^ (top - r) = (let e : top + 1 - (r + 1) ≡ top - r = omega arith in ap (λ x. 2 ^ x) e) in
    let half_of : p / 2 ≡ 2 ^ top - 2 ^ (top - r) + o / 2 = omega (arith, s.all, s.from, s.low) in
    let small : p / 2 < 2 ^ top = omega (arith, half_of, s.low, s.some) in
    let one : 1 * 2 ^ top ≡ 2 ^ top = omega arith in
    or_comm (p / 2) (2 ^ top) ∙ ap (λ x. bit_or x (p / 2)) (sym one) ∙ or_shifted 1 top (p / 2) small
    ∙ (let z : 1 * 2 ^ top + p / 2 ≡ row_start top (r + 1) + o / 2 = omega (arith, half_of, s.all, s.low, c) in z)

-- a place within so many rows above row 0
abbrev pub IsWithin : ℕ → Place → Type 0
IsWithin top p = (p.row ≤ top) × (p.off < 2 ^ (top - p.row))

-- positions rise with the rows, and in a row with the offsets
rises_within : (top : ℕ) (p q : Place) → IsWithin top p → IsWithin top q → IsBefore p q → row_start top p.row + p.off < row_start top q.row + q.off
rises_within top p q w v b =
    ⊎_elim
    (λ lt.
    let s = spans top p.row w.0 in
    let c : 2 ^ (top + 1 - q.row) ≤ 2 ^ (top - p.row) = pow_mono (omega (arith, v.0)) in
    omega (arith, s.all, s.from, s.low, c, w.1))
    (λ e. subst (λ x. row_start top p.row + p.off < row_start top x + q.off) e.0 (omega (arith, e.1)))
    b

pub position_rises : (n : ℕ) (p q : Place) → InForest n p.row p.off → InForest n q.row q.off → IsBefore p q
    → position n p.row p.off < position n q.row q.off
position_rises n p q h k b = rises_within (rows n) p q (within_rows n p.row p.off h) (within_rows n q.row q.off k) b

order_within : (top : ℕ) (p q : Place) → IsWithin top p → IsWithin top q → IsBefore p q ↔ (row_start top p.row + p.off < row_start top q.row + q.off)
order_within top p q w v = (
  rises_within top p q w v,
  λ lt. ⊎_elim (λ b. b)
      (⊎_elim
      (λ e. let f = ap (λ (x : Place). row_start top x.row + x.off) e in absurd (omega (arith, f)))
      (λ b. let g = rises_within top q p v w b in absurd (omega (arith, g))))
      (place_order p q),
)

pub position_order : (n : ℕ) (p q : Place) → InForest n p.row p.off → InForest n q.row q.off → IsBefore p q
    ↔ (position n p.row p.off < position n q.row q.off)
position_order n p q h k = order_within (rows n) p q (within_rows n p.row p.off h) (within_rows n q.row q.off k)

-- a place has its position alone
one_within : (top : ℕ) (p q : Place) → IsWithin top p → IsWithin top q → row_start top p.row + p.off ≡ row_start top q.row + q.off → p ≡ q
one_within top p q w v e =
    ⊎_elim
    (λ b. let g = rises_within top p q w v b in absurd (omega (arith, e)))
    (⊎_elim (λ same. same) (λ b. let g = rises_within top q p v w b in absurd (omega (arith, e))))
    (place_order p q)

pub one_position : (n : ℕ) (p q : Place) → InForest n p.row p.off → InForest n q.row q.off → position n p.row p.off ≡ position n q.row q.off → p ≡ q
one_position n p q h k e = one_within (rows n) p q (within_rows n p.row p.off h) (within_rows n q.row q.off k) e

-- places of the forest that have the same positions are the same
pub same_places : (n : ℕ) (ps qs : List Place) → AreWithin n ps → AreWithin n qs → positions_of n ps ≡ positions_of n qs → ps ≡ qs
same_places n [] [] a b e = refl
same_places n [] (q ∷ qs) a b e = let z = ap length e in absurd (omega (arith, z))
same_places n (p ∷ ps) [] a b e = let z = ap length e in absurd (omega (arith, z))
same_places n (p ∷ ps) (q ∷ qs) a b e =
    let first : position n p.row p.off ≡ position n q.row q.off = cc in
    let rest : positions_of n ps ≡ positions_of n qs = cc in
    ap₂ (λ x xs. x ∷ xs) (one_position n p q (a p.row p.off (has_first p ps)) (b q.row q.off (has_first q qs)) first)
    (same_places n ps qs (within_rest n p ps a) (within_rest n q qs b) rest)

-- `2 << top` is not cut
pub shifted : (top : ℕ) → top ≤ 40 → 2 * 2 ^ top % 2 ^ 64 ≡ 2 ^ (top + 1)
shifted top few =
    let e : 2 ^ (top + 1) ≡ 2 ^ top * 2 = (let z : top + 1 ≡ suc top = omega arith in ap (λ x. 2 ^ x) z ∙ pow-suc 2 top) in
    let a : 2 ^ (top + 1) ≡ 2 * 2 ^ top = omega (arith, e) in
    mod-eq_of_lt (subst (λ x. x < 2 ^ 64) a (pow_below (top + 1) 64 (omega arith))) ∙ sym a

-- the shifts that compute where a row begins
pub shifted_start : (top r : ℕ) → top ≤ 40 → r ≤ top → 2 * 2 ^ top % 2 ^ 64 - 2 * 2 ^ top % 2 ^ 64 / 2 ^ r ≡ row_start top r
shifted_start top r few h =
    let e : top + 1 - r + r ≡ top + 1 = omega arith in
    let c : 2 ^ (top + 1) / 2 ^ r ≡ 2 ^ (top + 1 - r) = ap (λ x. x / 2 ^ r) (ap (λ x. 2 ^ x) (sym e) ∙ pow-add 2 (top + 1 - r) r)
    ∙ shl-shr (2 ^ (top + 1 - r)) r in
    ap (λ x. x - x / 2 ^ r) (shifted top few) ∙ ap (λ x. 2 ^ (top + 1) - x) c

-- no position is at or past the end
pub number_small : (top r o : ℕ) → r ≤ top → o < 2 ^ (top - r) → row_start top r + o < 2 ^ (top + 1) - 1
number_small top r o le lt =
    let s = spans top r le in
    omega (arith, s.all, s.from, s.low, s.some, lt)

pub position_small : (n r o : ℕ) → InForest n r o → position n r o < 2 ^ (rows n + 1) - 1
position_small n r o h = let w = within_rows n r o h in number_small (rows n) r o w.0 w.1

-- a position, and the power of two in the count of positions from it on
pub record IsFromEnd (top p j : ℕ) : Type 0 where
  pub before : p < 2 ^ (top + 1) - 1
  pub least : 2 ^ j ≤ 2 ^ (top + 1) - 1 - p
  pub most : 2 ^ (top + 1) - 1 - p < 2 * 2 ^ j

-- that power tells the row
pub row_from_end : (top r o j : ℕ) → r ≤ top → o < 2 ^ (top - r) → IsFromEnd top (row_start top r + o) j → r ≡ top - j
row_from_end top r o j le lt f =
    let s = spans top r le in
    let e = same_log (2 ^ (top + 1) - 1 - (row_start top r + o)) (top - r) j (omega (arith, s.all, s.from, s.low, lt))
    (omega (arith, s.all, s.from, s.low, lt)) f.least f.most in
    omega (arith, e, le)

pub row_in_range : (top p j : ℕ) → IsFromEnd top p j → (j ≤ top) × (row_start top (top - j) ≤ p)
row_in_range top p j f =
    let all : 2 ^ (top + 1) ≡ 2 ^ top * 2 = (let e : top + 1 ≡ suc top = omega arith in ap (λ x. 2 ^ x) e ∙ pow-suc 2 top) in
    let lt = pow_order j (top + 1) (omega (arith, f.least, f.before)) in
    let le : j ≤ top = omega (arith, lt) in
    let back : 2 ^ (top + 1 - (top - j)) ≡ 2 ^ j * 2 = (let e : top + 1 - (top - j) ≡ suc j = omega arith in ap (λ x. 2 ^ x) e ∙ pow-suc 2 j) in
    (le, omega (arith, back, f.most, f.before))

-- ---- fixed positions

low_within : (p : Place) → IsLow p.row p.off → IsWithin 40 p
low_within p h = (omega (arith, h.0), h.1)

pub places_low : (n row off : ℕ) → n ≤ 2 ^ 40 → InForest n row off → IsLow row off
places_low n row off few h = let w = within_top 40 n row off few h in (omega (arith, w.0), w.1)

pub fixed_order : (p q : Place) → IsLow p.row p.off → IsLow q.row q.off → IsBefore p q ↔ (fixed_position p.row p.off < fixed_position q.row q.off)
fixed_order p q h k = order_within 40 p q (low_within p h) (low_within q k)

-- a place has its fixed position alone
pub one_fixed_position : (p q : Place) → IsLow p.row p.off → IsLow q.row q.off → fixed_position p.row p.off ≡ fixed_position q.row q.off → p ≡ q
one_fixed_position p q h k e = one_within 40 p q (low_within p h) (low_within q k) e

-- fixed positions have the order of positions
pub fixed_keeps : (n : ℕ) (p q : Place) → n ≤ 2 ^ 40 → InForest n p.row p.off → InForest n q.row q.off →
    (position n p.row p.off < position n q.row q.off) ↔ (fixed_position p.row p.off < fixed_position q.row q.off)
fixed_keeps n p q few h k =
    let here = position_order n p q h k in
    let there = fixed_order p q (places_low n p.row p.off few h) (places_low n q.row q.off few k) in
    (λ lt. there.0 (here.1 lt), λ lt. here.0 (there.1 lt))

-- and fit 41 bits
pub fixed_small : (row off : ℕ) → IsLow row off → fixed_position row off < 2 ^ 41
fixed_small row off h = let z = number_small 40 row off (omega (arith, h.0)) h.1 in omega (arith, z)
