use Rattle.std.proofs.Common.{◌≡◌, ℕ, zero, suc, ◌<◌, ◌+◌, ◌-◌, ◌*◌, ◌/◌, ◌%◌, ◌^◌, List, [], ◌∷◌, length, slice_index, bit_or, arith, refl, Fits}
use Rattle.std.specs.Int.{w32, rotate_right}
use Rattle.std.specs.Simd.Lanes.{zip2, Each1}
use Rattle.std.proofs.lemmas.Simd.{Each1-get_or}
pub use Rattle.digest_lanes.proofs.LaneLemmas.{slice_index-lane, lane-set, length-lane}

-- what holds of each of the eight lanes
pub below_eight : (P : ℕ → Type 0) → P 0 → P 1 → P 2 → P 3 → P 4 → P 5 → P 6 → P 7 → (j : ℕ) → j < 8 → P j
below_eight P p0 p1 p2 p3 p4 p5 p6 p7 zero h = p0
below_eight P p0 p1 p2 p3 p4 p5 p6 p7 (suc zero) h = p1
below_eight P p0 p1 p2 p3 p4 p5 p6 p7 (suc (suc zero)) h = p2
below_eight P p0 p1 p2 p3 p4 p5 p6 p7 (suc (suc (suc zero))) h = p3
below_eight P p0 p1 p2 p3 p4 p5 p6 p7 (suc (suc (suc (suc zero)))) h = p4
below_eight P p0 p1 p2 p3 p4 p5 p6 p7 (suc (suc (suc (suc (suc zero))))) h = p5
below_eight P p0 p1 p2 p3 p4 p5 p6 p7 (suc (suc (suc (suc (suc (suc zero)))))) h = p6
below_eight P p0 p1 p2 p3 p4 p5 p6 p7 (suc (suc (suc (suc (suc (suc (suc zero))))))) h = p7
below_eight P p0 p1 p2 p3 p4 p5 p6 p7 (suc (suc (suc (suc (suc (suc (suc (suc n)))))))) h = absurd (omega arith)

-- what holds of each list of eight elements
pub eight_lanes : (P : List ℕ → Type 0) → ((a b c d e f g i : ℕ) → P (a ∷ b ∷ c ∷ d ∷ e ∷ f ∷ g ∷ i ∷ [])) → (xs : List ℕ) → length xs ≡ 8 → P xs
eight_lanes P p (a ∷ b ∷ c ∷ d ∷ e ∷ f ∷ g ∷ i ∷ []) h = p a b c d e f g i
eight_lanes P p [] h = absurd (omega arith)
eight_lanes P p (a ∷ []) h = absurd (omega arith)
eight_lanes P p (a ∷ b ∷ []) h = absurd (omega arith)
eight_lanes P p (a ∷ b ∷ c ∷ []) h = absurd (omega arith)
eight_lanes P p (a ∷ b ∷ c ∷ d ∷ []) h = absurd (omega arith)
eight_lanes P p (a ∷ b ∷ c ∷ d ∷ e ∷ []) h = absurd (omega arith)
eight_lanes P p (a ∷ b ∷ c ∷ d ∷ e ∷ f ∷ []) h = absurd (omega arith)
eight_lanes P p (a ∷ b ∷ c ∷ d ∷ e ∷ f ∷ g ∷ []) h = absurd (omega arith)
eight_lanes P p (a ∷ b ∷ c ∷ d ∷ e ∷ f ∷ g ∷ i ∷ k ∷ xs) h = absurd (omega arith)

-- two shifts of each lane and an or are a rotation
abbrev Rotates : ℕ → List ℕ → Type 0
Rotates k a = (j : ℕ) → j < 8
    → slice_index (zip2 bit_or
    (zip2 (λ x n. x / 2 ^ n) a (k ∷ k ∷ k ∷ k ∷ k ∷ k ∷ k ∷ k ∷ []))
    (zip2 (λ x n. x * 2 ^ n % 2 ^ 32) a ((32 - k) ∷ (32 - k) ∷ (32 - k) ∷ (32 - k) ∷ (32 - k) ∷ (32 - k) ∷ (32 - k) ∷ (32 - k) ∷ []))) j
    ≡ rotate_right w32 (slice_index a j) k

pub shifts_rotate : (k : ℕ) → 0 < k → k < 32 → (a : List ℕ) → length a ≡ 8 → Rotates k a
shifts_rotate k low high =
    let right : k % 32 ≡ k = omega arith in
    let left : (32 - k) % 32 ≡ 32 - k = omega arith in
    eight_lanes (Rotates k) (λ a0 a1 a2 a3 a4 a5 a6 a7.
    below_eight _ (rw (right, left) refl) (rw (right, left) refl) (rw (right, left) refl) (rw (right, left) refl) (rw (right, left) refl)
    (rw (right, left) refl) (rw (right, left) refl) (rw (right, left) refl))

-- a word added to each lane
abbrev Adds : ℕ → List ℕ → Type 0
Adds y a = (j : ℕ) → j < 8 → slice_index (zip2 (λ m n. (m + n) % 2 ^ 32) a (y ∷ y ∷ y ∷ y ∷ y ∷ y ∷ y ∷ y ∷ [])) j ≡ (slice_index a j + y) % 2 ^ 32

pub adds_word : (y : ℕ) → (a : List ℕ) → length a ≡ 8 → Adds y a
adds_word y = eight_lanes (Adds y) (λ a0 a1 a2 a3 a4 a5 a6 a7. below_eight _ refl refl refl refl refl refl refl refl)

-- each lane shifted
abbrev Shifts : ℕ → List ℕ → Type 0
Shifts k a = (j : ℕ) → j < 8 → slice_index (zip2 (λ x n. x / 2 ^ n) a (k ∷ k ∷ k ∷ k ∷ k ∷ k ∷ k ∷ k ∷ [])) j ≡ slice_index a j / 2 ^ k

pub shifts_right : (k : ℕ) → (a : List ℕ) → length a ≡ 8 → Shifts k a
shifts_right k = eight_lanes (Shifts k) (λ a0 a1 a2 a3 a4 a5 a6 a7. below_eight _ refl refl refl refl refl refl refl refl)

-- a lane is a word
pub lane_below : (xs : List ℕ) (j : ℕ) → length xs ≡ 8 → Each1 (Fits w32) xs → j < 8 → slice_index xs j < 2 ^ 32
lane_below xs j len fits h = (Each1-get_or (Fits w32) xs j 0 (omega arith) fits).fits

-- a word in each lane
pub splat_lane : (y j : ℕ) → j < 8 → slice_index (y ∷ y ∷ y ∷ y ∷ y ∷ y ∷ y ∷ y ∷ []) j ≡ y
splat_lane y = below_eight _ refl refl refl refl refl refl refl refl
