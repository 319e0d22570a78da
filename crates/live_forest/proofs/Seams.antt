-- Where the digest of a part of pages is kept.
use Rattle.std.proofs.Common.{◌≡◌, ℕ, zero, suc, ◌+◌, ◌-◌, ◌*◌, ◌/◌, ◌%◌, ◌^◌, ◌<◌, ◌≤◌, refl, sym, ap, ◌∙◌, subst, arith, pow-suc, mod-eq_of_lt}
use Rattle.std.proofs.lemmas.Nat.{shr-shr}
use Rattle.forest_place.specs.Forest.{InForest}
use Rattle.forest_place.proofs.Parts.{parts-suc, half_pow}
use Rattle.live_forest.specs.Stores.{seam}

-- the first page of the right one of both siblings, less one where the part is the left one
pub seam_is : (row off : ℕ) → seam row off + 1 ≡ (off + 1 - off % 2) * 2 ^ suc row + off % 2
seam_is zero off = omega arith
seam_is (suc row) off =
    let power = pow-suc 2 (suc row) in
    let begin : (off + 1 - off % 2) * 2 ^ suc (suc row) ≡ 2 * ((off + 1 - off % 2) * 2 ^ suc row) =
    ap (λ x. (off + 1 - off % 2) * x) power ∙ (let z : (off + 1 - off % 2) * (2 ^ suc row * 2) ≡ 2 * ((off + 1 - off % 2) * 2 ^ suc row) =
    omega arith in z) in
    omega (arith, seam_is row off, begin)

-- as the code works it out
pub seam_value : (row off : ℕ) → seam row off < 2 ^ 40 → (off + 1 - off % 2) * 2 ^ (row + 1) % 2 ^ 64 + off % 2 ≡ seam row off + 1
seam_value row off small =
    let e : suc row ≡ row + 1 = omega arith in
    let is : seam row off + 1 ≡ (off + 1 - off % 2) * 2 ^ (row + 1) + off % 2 =
    subst (λ k. seam row off + 1 ≡ (off + 1 - off % 2) * 2 ^ k + off % 2) e (seam_is row off) in
    ap (λ x. x + off % 2) (mod-eq_of_lt (omega (arith, is, small))) ∙ sym is

pub seam_from : (row off : ℕ) → 2 * off ≤ seam row off
seam_from zero off = omega arith
seam_from (suc row) off = omega (arith, seam_from row off)

-- a left half ends and a right one begins beside the seam: so it is odd for the one and even for the other
seam_parity : (row off : ℕ) → seam row off % 2 ≡ 1 - off % 2
seam_parity zero off = omega arith
seam_parity (suc row) off = omega arith

-- a part of the forest has it below n
pub seam_below : (n row off : ℕ) → InForest n (suc row) off → seam row off < n
seam_below n zero off h = omega (arith, rw parts-suc at h)
seam_below n (suc row) off h =
    let below = seam_below (n / 2) row off (subst (λ x. off < x) (half_pow n (suc row)) h) in
    omega (arith, below)

-- two parts have different ones
pub seam_one : (r o s p : ℕ) → seam r o ≡ seam s p → (r ≡ s) × (o ≡ p)
seam_one zero o zero p e = (refl, omega arith)
seam_one zero o (suc s) p e = absurd (omega (arith, seam_parity s p))
seam_one (suc r) o zero p e = absurd (omega (arith, seam_parity r o))
seam_one (suc r) o (suc s) p e =
    let w = seam_one r o s p (omega arith) in
    (ap suc w.0, w.1)

-- a part of more than one page is one of as many rows less over as many pages
pub above_pages : (n row off : ℕ) → 8 ≤ row → InForest n row off → InForest (n / 128) (suc (row - 8)) off
above_pages n row off high h =
    let e : 7 + suc (row - 8) ≡ row = omega arith in
    subst (λ x. off < x) (sym (shr-shr n 7 (suc (row - 8)) ∙ ap (λ k. n / 2 ^ k) e)) h

pub seam_high : (n row off : ℕ) → 8 ≤ row → InForest n row off → seam (row - 8) off < n / 128
seam_high n row off high h = seam_below (n / 128) (row - 8) off (above_pages n row off high h)
