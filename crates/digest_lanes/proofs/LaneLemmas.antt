-- Vectors of any number of lanes, each the list of its lanes.
use Rattle.std.proofs.Common.{◌≡◌, ℕ, suc, zero, ◌<◌, ◌-◌, ◌*◌, ◌/◌, ◌%◌, ◌^◌, List, [], ◌∷◌, length, slice_index, slice_index_or, slice_set}
use Rattle.std.proofs.Common.{bit_or, replicate, arith, refl, ap, ◌∙◌, Fits}
use lib.ListN.{get_or}
use Rattle.std.specs.Int.{w64, rotate_right}
use Rattle.std.specs.Simd.Lanes.{zip2, Each1}
use Rattle.digest_lanes.specs.Lanes.{lane, lane_of}
use Rattle.std.proofs.lemmas.List.{get_or-replicate, length-replicate}
use Rattle.std.proofs.lemmas.Simd.{Each1-get_or, get_or-zip2, length-zip2}

-- word k of lane j is lane j of vector k
pub word-lane : {V : Type 0} (word : V → ℕ → ℕ) (x : List V) (j k : ℕ) (v : V) → k < length x
    → slice_index (lane_of word j x) k ≡ word (get_or x k v) j
word-lane word [] j k v below = absurd (omega arith)
word-lane word (u ∷ x) j zero v below = refl
word-lane word (u ∷ x) j (suc k) v below = word-lane word x j k v (omega arith)

-- the same of vectors that are lists
pub slice_index-lane : (x : List (List ℕ)) (j k : ℕ) → slice_index (lane j x) k ≡ slice_index (slice_index_or x k []) j
slice_index-lane [] j k = refl
slice_index-lane (v ∷ x) j zero = refl
slice_index-lane (v ∷ x) j (suc k) = slice_index-lane x j k

pub lane-set : {V : Type 0} (word : V → ℕ → ℕ) (x : List V) (j k : ℕ) (v : V)
    → lane_of word j (slice_set x k v) ≡ slice_set (lane_of word j x) k (word v j)
lane-set word [] j k v = refl
lane-set word (y ∷ x) j zero v = refl
lane-set word (y ∷ x) j (suc k) v = ap (λ (t : List ℕ). word y j ∷ t) (lane-set word x j k v)

pub length-lane : {V : Type 0} (word : V → ℕ → ℕ) (x : List V) (j : ℕ) → length (lane_of word j x) ≡ length x
length-lane word [] j = refl
length-lane word (v ∷ x) j = ap suc (length-lane word x j)

-- what holds of each of two lanes, and of four
pub below_two : (P : ℕ → Type 0) → P 0 → P 1 → (j : ℕ) → j < 2 → P j
below_two P p0 p1 zero h = p0
below_two P p0 p1 (suc zero) h = p1
below_two P p0 p1 (suc (suc n)) h = absurd (omega arith)

pub below_four : (P : ℕ → Type 0) → P 0 → P 1 → P 2 → P 3 → (j : ℕ) → j < 4 → P j
below_four P p0 p1 p2 p3 zero h = p0
below_four P p0 p1 p2 p3 (suc zero) h = p1
below_four P p0 p1 p2 p3 (suc (suc zero)) h = p2
below_four P p0 p1 p2 p3 (suc (suc (suc zero))) h = p3
below_four P p0 p1 p2 p3 (suc (suc (suc (suc n)))) h = absurd (omega arith)

-- a word in each lane
pub splat_lane : (n y j : ℕ) → j < n → slice_index (replicate n y) j ≡ y
splat_lane n y j h = get_or-replicate n j y 0 h

-- what an operator gives of a lane and a word
pub with_word : (f : ℕ → ℕ → ℕ) (n y : ℕ) (a : List ℕ) → length a ≡ n → (j : ℕ) → j < n
    → slice_index (zip2 f a (replicate n y)) j ≡ f (slice_index a j) y
with_word f n y a len j h =
    get_or-zip2 f a (replicate n y) j 0 0 0 (omega arith) (omega (arith, length-replicate n y)) ∙ ap (f (slice_index a j)) (splat_lane n y j h)

length-with_word : (f : ℕ → ℕ → ℕ) (n y : ℕ) (a : List ℕ) → length a ≡ n → length (zip2 f a (replicate n y)) ≡ n
length-with_word f n y a len = length-zip2 f a (replicate n y) (omega (arith, length-replicate n y)) ∙ len

-- two shifts of each lane and an or are a rotation
pub shifts_rotate : (n k : ℕ) → 0 < k → k < 64 → (a : List ℕ) → length a ≡ n → (j : ℕ) → j < n
    → slice_index (zip2 bit_or (zip2 (λ x m. x / 2 ^ m) a (replicate n k)) (zip2 (λ x m. x * 2 ^ m % 2 ^ 64) a (replicate n (64 - k)))) j
    ≡ rotate_right w64 (slice_index a j) k
shifts_rotate n k low high a len j h =
    let down : ℕ → ℕ → ℕ = λ x m. x / 2 ^ m in
    let up : ℕ → ℕ → ℕ = λ x m. x * 2 ^ m % 2 ^ 64 in
    let right : k % 64 ≡ k = omega arith in
    let left : (64 - k) % 64 ≡ 64 - k = omega arith in
    get_or-zip2 bit_or (zip2 down a (replicate n k)) (zip2 up a (replicate n (64 - k))) j 0 0 0
    (omega (arith, length-with_word down n k a len)) (omega (arith, length-with_word up n (64 - k) a len))
    ∙ rw (with_word down n k a len j h, with_word up n (64 - k) a len j h, right, left) refl

-- a lane is a word
pub lane_below : (n : ℕ) (xs : List ℕ) (j : ℕ) → length xs ≡ n → Each1 (Fits w64) xs → j < n → slice_index xs j < 2 ^ 64
lane_below n xs j len fits h = (Each1-get_or (Fits w64) xs j 0 (omega arith) fits).fits
