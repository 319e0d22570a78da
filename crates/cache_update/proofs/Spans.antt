-- The entries that a place stands for, as a span of numbers, and when the spans of two places are apart.
use Rattle.std.proofs.Common.{◌≡◌, ℕ, zero, suc, ◌+◌, ◌-◌, ◌*◌, ◌/◌, ◌%◌, ◌^◌, ◌<◌, ◌≤◌, true, refl, sym, ap, ◌∙◌, subst, inl, inr, arith, pow-suc}
use Rattle.std.proofs.Common.{ltb-true}
use Rattle.std.specs.Prelude.{◌⊎◌, ◌==◌, nat_lt}
use Rattle.std.proofs.Math.Nat.{mul-le-mul_right, div-mul-le_self, lt-div-mul-add}
use Rattle.std.proofs.lemmas.Nat.{pow_pos, pow-add, shr-shr}
use Rattle.std.proofs.lemmas.Bool.{cases_order, and_parts, eqb-true}
use Rattle.forest_place.specs.declared.place.Place.{Place}
use Rattle.forest_place.specs.Forest.{InForest, is_root, is_slot, root_off, IsSlotOf}
use Rattle.forest_place.specs.Places.{child}
use Rattle.forest_place.proofs.Listed.{place}
use Rattle.forest_place.proofs.Parts.{parts-suc, is_root-root_off}
use Rattle.forest_place.proofs.Slots.{in_forest_iff}
use Rattle.forest_model.specs.Cover.{is_above}

abbrev pub low : Place → ℕ
low p = p.off * 2 ^ p.row

abbrev pub high : Place → ℕ
high p = (p.off + 1) * 2 ^ p.row

-- q's entries are among those of p
abbrev pub IsIn : Place → Place → Type 0
IsIn q p = (low p ≤ low q) × (high q ≤ high p)

abbrev pub AreApart : Place → Place → Type 0
AreApart p q = (high p ≤ low q) ⊎ (high q ≤ low p)

pub in_itself : (p : Place) → IsIn p p
in_itself p = (omega arith, omega arith)

pub in_in : (p q r : Place) → IsIn p q → IsIn q r → IsIn p r
in_in p q r a b = (omega (arith, a.0, b.0), omega (arith, a.1, b.1))

pub apart_turned : (p q : Place) → AreApart p q → AreApart q p
apart_turned p q (inl a) = inr a
apart_turned p q (inr b) = inl b

pub apart_in : (p p' q : Place) → IsIn p p' → AreApart p' q → AreApart p q
apart_in p p' q i (inl a) = inl (omega (arith, a, i.1))
apart_in p p' q i (inr b) = inr (omega (arith, b, i.0))

pub not_empty : (p : Place) → low p < high p
not_empty p = let w = pow_pos p.row in omega (arith, w)

pub not_apart_in : (p q : Place) → IsIn q p → AreApart p q → ⊥
not_apart_in p q i (inl a) = let w = not_empty q in omega (arith, a, i.1, w)
not_apart_in p q i (inr b) = let w = not_empty q in omega (arith, b, i.0, w)

-- the children of a place
twice_wide : (r : ℕ) → 0 < r → 2 ^ r ≡ 2 ^ (r - 1) * 2
twice_wide r lt = let z : r ≡ suc (r - 1) = omega arith in ap (λ x. 2 ^ x) z ∙ pow-suc 2 (r - 1)

half_in : (o x s : ℕ) → s < 2 → (o * (x * 2) ≤ (2 * o + s) * x) × ((2 * o + s + 1) * x ≤ (o + 1) * (x * 2))
half_in o x zero lt = (omega arith, omega arith)
half_in o x (suc zero) lt = (omega arith, omega arith)
half_in o x (suc (suc s)) lt = absurd (omega arith)

pub child_in_span : (s : ℕ) (q : Place) → 0 < q.row → s < 2 → IsIn (child s q) q
child_in_span s q lt b =
    subst (λ y. (q.off * y ≤ (2 * q.off + s) * 2 ^ (q.row - 1)) × ((2 * q.off + s + 1) * 2 ^ (q.row - 1) ≤ (q.off + 1) * y))
    (sym (twice_wide q.row lt)) (half_in q.off (2 ^ (q.row - 1)) s b)

pub halves_apart : (s t : ℕ) (q : Place) → s < 2 → t < 2 → (s ≡ t → ⊥) → AreApart (child s q) (child t q)
halves_apart zero zero q a b n = absurd (n refl)
halves_apart zero (suc zero) q a b n = inl (omega arith)
halves_apart zero (suc (suc t)) q a b n = absurd (omega arith)
halves_apart (suc zero) zero q a b n = inr (omega arith)
halves_apart (suc zero) (suc zero) q a b n = absurd (n refl)
halves_apart (suc zero) (suc (suc t)) q a b n = absurd (omega arith)
halves_apart (suc (suc s)) t q a b n = absurd (omega arith)

-- a place has those of the places beneath it
above_in : (r o h u : ℕ) → r ≤ h → o / 2 ^ (h - r) ≡ u → IsIn (place r o) (place h u)
above_in r o h u le e =
    let k = h - r in
    let up : r + k ≡ h = omega (arith, le) in
    let wide : 2 ^ h ≡ 2 ^ r * 2 ^ k = ap (λ x. 2 ^ x) (sym up) ∙ pow-add 2 r k in
    let below : u * 2 ^ k ≤ o = subst (λ x. x * 2 ^ k ≤ o) e (div-mul-le_self o (2 ^ k)) in
    let past : o < u * 2 ^ k + 2 ^ k = subst (λ x. o < x * 2 ^ k + 2 ^ k) e (lt-div-mul-add (pow_pos k)) in
    let next : o + 1 ≤ u * 2 ^ k + 2 ^ k = omega (arith, past) in
    let a = mul-le-mul_right (2 ^ r) below in
    let b = mul-le-mul_right (2 ^ r) next in
    subst (λ y. (u * y ≤ o * 2 ^ r) × ((o + 1) * 2 ^ r ≤ (u + 1) * y)) (sym wide) (omega (arith, a), omega (arith, b))

pub is_above_in : (p q : Place) → is_above p q ≡ true → IsIn q p
is_above_in p q t =
    let both = and_parts (nat_lt q.row p.row) (q.off / 2 ^ (p.row - q.row) == p.off) t in
    let lt : q.row < p.row = ltb-true _ _ both.0 in
    above_in q.row q.off p.row p.off (omega (arith, lt)) (eqb-true _ _ both.1)

pub slot_in : (n r o h : ℕ) → IsSlotOf n r o h → IsIn (place r o) (place h (root_off n h))
slot_in n r o h s = above_in r o h (root_off n h) s.up s.beneath

-- a root's entries come behind those of all other places in its row and above
pub root_last : (n r o s u : ℕ) → is_root n r o ≡ true → InForest n s u → r ≤ s → (r ≡ s → o ≡ u → ⊥) → high (place s u) ≤ low (place r o)
root_last n r o s u top h le other =
    let a = and_parts (o % 2 == 0) (o + 1 == n / 2 ^ r) top in
    let even : o % 2 ≡ 0 = eqb-true _ _ a.0 in
    let last : o + 1 ≡ n / 2 ^ r = eqb-true _ _ a.1 in
    by_order even last (cases_order r s)
  where
    by_order : o % 2 ≡ 0 → o + 1 ≡ n / 2 ^ r → (r ≡ s) ⊎ ((r < s) ⊎ (s < r)) → (u + 1) * 2 ^ s ≤ o * 2 ^ r
    by_order even last (inl same) =
        let lt : u < n / 2 ^ r = subst (λ x. InForest n x u) (sym same) h in
        let ne : o ≡ u → ⊥ = other same in
        let less : u + 1 ≤ o = omega (arith, lt, last, ne) in
        subst (λ x. (u + 1) * 2 ^ x ≤ o * 2 ^ r) same (mul-le-mul_right (2 ^ r) less)
    by_order even last (inr (inl lt)) =
        let k = s - suc r in
        let up : suc r + k ≡ s = omega (arith, lt) in
        let half : n / 2 ^ suc r ≡ o / 2 = parts-suc n r ∙ (let z : n / 2 ^ r / 2 ≡ o / 2 = omega (arith, last, even) in z) in
        let e : n / 2 ^ s ≡ o / 2 / 2 ^ k = ap (λ x. n / 2 ^ x) (sym up) ∙ (sym (shr-shr n (suc r) k) ∙ ap (λ x. x / 2 ^ k) half) in
        let far : u < o / 2 / 2 ^ k = subst (λ x. u < x) e h in
        let fit : (u + 1) * 2 ^ k ≤ o / 2 = (in_forest_iff (o / 2) k u).0 far in
        let wide : 2 ^ s ≡ 2 ^ r * 2 * 2 ^ k = ap (λ x. 2 ^ x) (sym up) ∙ (pow-add 2 (suc r) k ∙ ap (λ x. x * 2 ^ k) (pow-suc 2 r)) in
        let m = mul-le-mul_right (2 ^ r * 2) fit in
        let two : o ≡ 2 * (o / 2) = omega (arith, even) in
        let twice : o * 2 ^ r ≡ o / 2 * (2 ^ r * 2) =
        ap (λ x. x * 2 ^ r) two ∙ (let z : 2 * (o / 2) * 2 ^ r ≡ o / 2 * (2 ^ r * 2) = omega arith in z) in
        subst (λ y. (u + 1) * y ≤ o * 2 ^ r) (sym wide) (omega (arith, m, twice))
    by_order even last (inr (inr gt)) = absurd (omega (arith, le, gt))

-- what is beneath a slot's root is of that slot
pub same_slot : (n : ℕ) (q : Place) (h k : ℕ) → is_slot n h ≡ true → IsIn q (place h (root_off n h)) → IsSlotOf n q.row q.off k → k ≡ h
same_slot n q h k slot i s = by_order (cases_order k h)
  where
    other : IsIn q (place k (root_off n k))
    other = slot_in n q.row q.off k s

    root_in : (x : ℕ) → is_slot n x ≡ true → InForest n x (root_off n x)
    root_in x t = let z = eqb-true _ _ t in omega (arith, z)

    by_order : (k ≡ h) ⊎ ((k < h) ⊎ (h < k)) → k ≡ h
    by_order (inl e) = e
    by_order (inr (inl lt)) =
        let far = root_last n k (root_off n k) h (root_off n h) (is_root-root_off n k s.slot) (root_in h slot) (omega (arith, lt))
        (λ e f. omega (arith, e, lt)) in
        let some = not_empty q in
        absurd (omega (arith, far, some, i.0, i.1, other.0, other.1))
    by_order (inr (inr gt)) =
        let far = root_last n h (root_off n h) k (root_off n k) (is_root-root_off n h slot) (root_in k s.slot) (omega (arith, gt))
        (λ e f. omega (arith, e, gt)) in
        let some = not_empty q in
        absurd (omega (arith, far, some, i.0, i.1, other.0, other.1))
