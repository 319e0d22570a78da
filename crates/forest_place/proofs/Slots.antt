-- Every place of the forest is beneath the root of one slot.
use Rattle.std.proofs.Common.{◌≡◌, ℕ, zero, suc, ◌+◌, ◌-◌, ◌*◌, ◌/◌, ◌%◌, ◌^◌, ◌<◌, ◌≤◌, refl, sym, ap, ◌∙◌, subst, ⊎_elim, arith, true}
use Rattle.std.specs.Prelude.{◌↔◌}
use Rattle.std.proofs.Math.Nat.{le-div_iff_mul-le}
use Rattle.std.proofs.lemmas.Nat.{pow_pos, shr-shr}
use Rattle.std.proofs.lemmas.Bool.{cases_Bool, cases_order, eqb-true}
use Rattle.forest_place.specs.Forest.{InForest, is_root, root_off, IsSlotOf}
use Rattle.forest_place.proofs.Parts.{half_pow, row_below, InForest-root, is_root-root_off, InForest-up, InForest-beneath, root_off-is_root}

-- a place is in the forest exactly where its entries, up to the last, are among the n
pub in_forest_iff : (n row off : ℕ) → InForest n row off ↔ ((off + 1) * 2 ^ row ≤ n)
in_forest_iff n row off =
    let e = le-div_iff_mul-le {k = 2 ^ row} {x = off + 1} {y = n} (pow_pos row) in
    (λ h. e.0 (omega arith), λ h. omega (arith, e.1 h))

-- a root is its own slot's
pub slot_of_root : (n row off : ℕ) → is_root n row off ≡ true → IsSlotOf n row off row
slot_of_root n row off top =
    let w = root_off-is_root n row off top in
    let z : row - row ≡ 0 = omega arith in
    let q : off / 1 ≡ off = omega arith in
    record { slot = w.1; up = omega arith; beneath = ap (λ x. off / 2 ^ x) z ∙ (q ∙ w.0) }

-- a place has its parent's slot
pub slot_of_child : (n row off h : ℕ) → IsSlotOf n (suc row) (off / 2) h → IsSlotOf n row off h
slot_of_child n row off h s =
    let up : suc row ≤ h = s.up in
    let z : h - row ≡ suc (h - suc row) = omega arith in
    record { slot = s.slot; up = omega arith; beneath = ap (λ x. off / 2 ^ x) z ∙ (half_pow off (h - suc row) ∙ s.beneath) }

slot_from : (n k row off : ℕ) → n - row ≡ k → InForest n row off → (h : ℕ) × IsSlotOf n row off h
slot_from n zero row off e h = let lt = row_below n row off h in absurd (omega arith)
slot_from n (suc k) row off e h =
    ⊎_elim
    (λ top. (row, slot_of_root n row off top))
    (λ other. let w = slot_from n k (suc row) (off / 2) (omega arith) (InForest-up n row off h other) in (w.0, slot_of_child n row off w.0 w.1))
    (cases_Bool (is_root n row off))

-- what a slot has is in the forest
pub InForest-slot : (n row off h : ℕ) → IsSlotOf n row off h → InForest n row off
InForest-slot n row off h s =
    let up : row ≤ h = s.up in
    let e : row + (h - row) ≡ h = omega arith in
    InForest-beneath n (h - row) row off
    (subst (λ x. InForest n x (off / 2 ^ (h - row))) (sym e)
    (subst (InForest n h) (sym s.beneath) (InForest-root n h (root_off n h) (is_root-root_off n h s.slot))))

-- a place is in the forest exactly where a slot has it
pub slot_iff : (n row off : ℕ) → InForest n row off ↔ ((h : ℕ) × IsSlotOf n row off h)
slot_iff n row off = (λ h. slot_from n (n - row) row off refl h, λ w. InForest-slot n row off w.0 w.1)

-- what is beneath a slot's root is in no whole part of a row above
slot_below : (n row off h k : ℕ) → h < k → IsSlotOf n row off h → IsSlotOf n row off k → ⊥
slot_below n row off h k lt s t =
    let up : row ≤ h = s.up in
    let j = k - suc h in
    let odd : n / 2 ^ h % 2 ≡ 1 = eqb-true _ _ s.slot in
    let top_odd : n / 2 ^ k % 2 ≡ 1 = eqb-true _ _ t.slot in
    let a : h - row + (suc j) ≡ k - row = omega arith in
    let b : h + suc j ≡ k = omega arith in
    let here : off / 2 ^ (h - row) ≡ n / 2 ^ h - 1 = s.beneath in
    let there : off / 2 ^ (h - row) / 2 ^ suc j ≡ n / 2 ^ k - 1 = shr-shr off (h - row) (suc j) ∙ (ap (λ x. off / 2 ^ x) a ∙ t.beneath) in
    let above : n / 2 ^ h / 2 ^ suc j ≡ n / 2 ^ k = shr-shr n h (suc j) ∙ ap (λ x. n / 2 ^ x) b in
    let halves : off / 2 ^ (h - row) / 2 ≡ n / 2 ^ h / 2 = omega (arith, here, odd) in
    let same : off / 2 ^ (h - row) / 2 ^ suc j ≡ n / 2 ^ h / 2 ^ suc j =
    half_pow (off / 2 ^ (h - row)) j ∙ (ap (λ x. x / 2 ^ j) halves ∙ sym (half_pow (n / 2 ^ h) j)) in
    omega (arith, same, there, above, top_odd)

-- one slot has it
pub one_slot : (n row off h k : ℕ) → IsSlotOf n row off h → IsSlotOf n row off k → h ≡ k
one_slot n row off h k s t =
    ⊎_elim (λ e. e)
    (⊎_elim (λ lt. absurd (slot_below n row off h k lt s t)) (λ gt. absurd (slot_below n row off k h gt t s)))
    (cases_order h k)
