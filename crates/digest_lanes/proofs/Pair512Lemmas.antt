-- The one block of a text of two halves of 32 bytes.
use Rattle.std.proofs.Common.{◌≡◌, ℕ, ◌≤◌, ◌<◌, ◌+◌, ◌-◌, ◌/◌, List, [], ◌∷◌, ◌++◌, length, take, slice_index, slice_index_or, arith, refl}
use Rattle.std.proofs.Common.{sym, ap, ◌∙◌, length-append}
use Rattle.std.proofs.lemmas.List.{get_or_append_left, get_or-append_right, take_all}
use Rattle.std.specs.Int.{w64, to_be_bytes}
use lib.ListN.{get_or}
use Rattle.digest_lanes.specs.Lanes.{lane, lane_of}
use Rattle.digest_lanes.proofs.LaneLemmas.{slice_index-lane, word-lane}
use Rattle.sha2.specs.Sha512.{compress, digest_bytes, first_words, hash_after, initial_hash_512_256, padded_message, padding, sha512_256, word_at}

-- a word of the front of a text
word_at-left : (l r : List ℕ) (i : ℕ) → i + 8 ≤ length l → word_at (l ++ r) i ≡ word_at l i
word_at-left l r i fits =
    rw (
      get_or_append_left l r 0 i (omega arith),
      get_or_append_left l r 0 (i + 1) (omega arith),
      get_or_append_left l r 0 (i + 2) (omega arith),
      get_or_append_left l r 0 (i + 3) (omega arith),
      get_or_append_left l r 0 (i + 4) (omega arith),
      get_or_append_left l r 0 (i + 5) (omega arith),
      get_or_append_left l r 0 (i + 6) (omega arith),
      get_or_append_left l r 0 (i + 7) (omega arith),
    ) refl

behind : (l r : List ℕ) (n i k : ℕ) → length l ≡ n → k ≡ n + i → slice_index (l ++ r) k ≡ slice_index r i
behind l r n i k len at =
    let low : k - n ≡ i = omega arith in
    get_or-append_right l r n k 0 len (omega arith) ∙ ap (slice_index r) low

-- a word of what stands behind the front
word_at-right : (l r : List ℕ) (n i k : ℕ) → length l ≡ n → k ≡ n + i → word_at (l ++ r) k ≡ word_at r i
word_at-right l r n i k len at =
    rw (
      behind l r n i k len at,
      behind l r n (i + 1) (k + 1) len (omega arith),
      behind l r n (i + 2) (k + 2) len (omega arith),
      behind l r n (i + 3) (k + 3) len (omega arith),
      behind l r n (i + 4) (k + 4) len (omega arith),
      behind l r n (i + 5) (k + 5) len (omega arith),
      behind l r n (i + 6) (k + 6) len (omega arith),
      behind l r n (i + 7) (k + 7) len (omega arith),
    ) refl

-- the text and its padding
pair_padded : (l r : List ℕ) → length l ≡ 32 → length r ≡ 32 → padded_message (l ++ r) ≡ (l ++ r) ++ padding 64
pair_padded l r ll lr =
    let both : length (l ++ r) ≡ 64 = omega (arith, length-append l r) in
    rw both refl

-- a word of the first half, of the second, and of the padding
left_word : (l r : List ℕ) (i : ℕ) → length l ≡ 32 → length r ≡ 32 → i + 8 ≤ 32 → word_at ((l ++ r) ++ padding 64) i ≡ word_at l i
left_word l r i ll lr fits =
    let both : length (l ++ r) ≡ 64 = omega (arith, length-append l r) in
    word_at-left (l ++ r) (padding 64) i (omega arith) ∙ word_at-left l r i (omega arith)

right_word : (l r : List ℕ) (i k : ℕ) → length l ≡ 32 → length r ≡ 32 → i + 8 ≤ 32 → k ≡ 32 + i → word_at ((l ++ r) ++ padding 64) k ≡ word_at r i
right_word l r i k ll lr fits at =
    let both : length (l ++ r) ≡ 64 = omega (arith, length-append l r) in
    word_at-left (l ++ r) (padding 64) k (omega arith) ∙ word_at-right l r 32 i k ll at

padding_word : (l r : List ℕ) (i k : ℕ) → length l ≡ 32 → length r ≡ 32 → k ≡ 64 + i → word_at ((l ++ r) ++ padding 64) k ≡ word_at (padding 64) i
padding_word l r i k ll lr at =
    let both : length (l ++ r) ≡ 64 = omega (arith, length-append l r) in
    word_at-right (l ++ r) (padding 64) 64 i k both at

-- the sixteen words of a block
abbrev sixteen : List ℕ → List ℕ
sixteen b =
    word_at b 0 ∷ word_at b 8 ∷ word_at b 16 ∷ word_at b 24 ∷ word_at b 32 ∷ word_at b 40 ∷ word_at b 48 ∷ word_at b 56
    ∷ word_at b 64 ∷ word_at b 72 ∷ word_at b 80 ∷ word_at b 88 ∷ word_at b 96 ∷ word_at b 104 ∷ word_at b 112 ∷ word_at b 120 ∷ []

pub first_words_sixteen : (b : List ℕ) → sixteen b ≡ first_words b 16
unfolding first_words
first_words_sixteen b = refl

-- the words of a half
pub four_words : (t : List ℕ) → word_at t 0 ∷ word_at t 8 ∷ word_at t 16 ∷ word_at t 24 ∷ [] ≡ first_words t 4
unfolding first_words
four_words t = refl

-- one of them, of a half in a lane
pub half_word : {V : Type 0} (word : V → ℕ → ℕ) (x : List V) (j k : ℕ) (v : V) (t : List ℕ) → length x ≡ 4 → k < 4
    → lane_of word j x ≡ first_words t 4
    → word (get_or x k v) j ≡ slice_index (word_at t 0 ∷ word_at t 8 ∷ word_at t 16 ∷ word_at t 24 ∷ []) k
half_word word x j k v t long below same =
    sym (word-lane word x j k v (omega arith)) ∙ ap (λ (s : List ℕ). slice_index s k) (same ∙ sym (four_words t))

-- the words of the two halves, and those of the padding
pub pair_block : (l r : List ℕ) → length l ≡ 32 → length r ≡ 32
    → word_at l 0 ∷ word_at l 8 ∷ word_at l 16 ∷ word_at l 24 ∷ word_at r 0 ∷ word_at r 8 ∷ word_at r 16 ∷ word_at r 24
    ∷ 0x8000000000000000 ∷ 0 ∷ 0 ∷ 0 ∷ 0 ∷ 0 ∷ 0 ∷ 512 ∷ []
    ≡ first_words (padded_message (l ++ r)) 16
pair_block l r ll lr =
    let b = (l ++ r) ++ padding 64 in
    let words : word_at l 0 ∷ word_at l 8 ∷ word_at l 16 ∷ word_at l 24 ∷ word_at r 0 ∷ word_at r 8 ∷ word_at r 16 ∷ word_at r 24
    ∷ 0x8000000000000000 ∷ 0 ∷ 0 ∷ 0 ∷ 0 ∷ 0 ∷ 0 ∷ 512 ∷ [] ≡ sixteen b =
    λ i. sym (left_word l r 0 ll lr (omega arith)) i ∷ sym (left_word l r 8 ll lr (omega arith)) i
    ∷ sym (left_word l r 16 ll lr (omega arith)) i ∷ sym (left_word l r 24 ll lr (omega arith)) i
    ∷ sym (right_word l r 0 32 ll lr (omega arith) (omega arith)) i ∷ sym (right_word l r 8 40 ll lr (omega arith) (omega arith)) i
    ∷ sym (right_word l r 16 48 ll lr (omega arith) (omega arith)) i ∷ sym (right_word l r 24 56 ll lr (omega arith) (omega arith)) i
    ∷ sym (padding_word l r 0 64 ll lr (omega arith)) i ∷ sym (padding_word l r 8 72 ll lr (omega arith)) i
    ∷ sym (padding_word l r 16 80 ll lr (omega arith)) i ∷ sym (padding_word l r 24 88 ll lr (omega arith)) i
    ∷ sym (padding_word l r 32 96 ll lr (omega arith)) i ∷ sym (padding_word l r 40 104 ll lr (omega arith)) i
    ∷ sym (padding_word l r 48 112 ll lr (omega arith)) i ∷ sym (padding_word l r 56 120 ll lr (omega arith)) i ∷ [] in
    words ∙ first_words_sixteen b ∙ ap (λ (p : List ℕ). first_words p 16) (sym (pair_padded l r ll lr))

one_block : (h p : List ℕ) → length p ≡ 128 → hash_after h p (length p / 128) ≡ compress h p
unfolding hash_after
one_block h p len =
    let whole : take 128 p ≡ p = take_all 128 p (omega arith) in
    let count : length p / 128 ≡ 1 = omega arith in
    rw count (ap (compress h) whole)

length-pair_padded : (l r : List ℕ) → length l ≡ 32 → length r ≡ 32 → length (padded_message (l ++ r)) ≡ 128
length-pair_padded l r ll lr =
    let fill : length (padding 64) ≡ 64 = refl in
    let whole : length ((l ++ r) ++ padding 64) ≡ length (l ++ r) + length (padding 64) = length-append (l ++ r) (padding 64) in
    ap length (pair_padded l r ll lr) ∙ omega (arith, whole, fill, length-append l r)

-- the digest of a pair is that of the state after its one block
pub sha512_256_of_pair : (l r : List ℕ) → length l ≡ 32 → length r ≡ 32
    → take 32 (digest_bytes (compress initial_hash_512_256 (padded_message (l ++ r))) 8) ≡ sha512_256 (l ++ r)
unfolding sha512_256
sha512_256_of_pair l r ll lr =
    ap (λ (s : List ℕ). take 32 (digest_bytes s 8)) (sym (one_block initial_hash_512_256 (padded_message (l ++ r)) (length-pair_padded l r ll lr)))

-- the leftmost four words of a hash value
pub digest_front : (h : List ℕ)
    → (((to_be_bytes w64 (slice_index h 0) ++ to_be_bytes w64 (slice_index h 1)) ++ to_be_bytes w64 (slice_index h 2))
    ++ to_be_bytes w64 (slice_index h 3))
    ≡ take 32 (digest_bytes h 8)
unfolding digest_bytes
digest_front h = refl

-- the same of one lane
pub digest_of_lane : (s : List (List ℕ)) (j : ℕ)
    → (((to_be_bytes w64 (slice_index (slice_index_or s 0 []) j) ++ to_be_bytes w64 (slice_index (slice_index_or s 1 []) j))
    ++ to_be_bytes w64 (slice_index (slice_index_or s 2 []) j)) ++ to_be_bytes w64 (slice_index (slice_index_or s 3 []) j))
    ≡ take 32 (digest_bytes (lane j s) 8)
digest_of_lane s j =
    rw (slice_index-lane s j 0, slice_index-lane s j 1, slice_index-lane s j 2, slice_index-lane s j 3) at (digest_front (lane j s))
