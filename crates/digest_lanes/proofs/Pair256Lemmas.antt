-- The two blocks of a text of two halves of 32 bytes.
use Rattle.std.proofs.Common.{◌≡◌, ℕ, ◌<◌, ◌≤◌, ◌+◌, ◌-◌, ◌*◌, ◌/◌, ◌^◌, List, [], ◌∷◌, ◌++◌, length, take, drop, slice_index, arith, refl, sym, ap}
use Rattle.std.proofs.Common.{◌∙◌, length-append}
use Rattle.std.proofs.lemmas.List.{get_or_append_left, get_or-append_right, take_all, take_at, drop_all, drop-append-le}
use Rattle.std.proofs.lemmas.Nat.{from_be_bytes-to_be_bytes_4}
use Rattle.std.specs.Prelude.{slice_index_or}
use Rattle.std.specs.Int.{w32, to_be_bytes}
use Rattle.digest_lanes.specs.Lanes.{lane}
use Rattle.digest_lanes.proofs.EightLemmas.{slice_index-lane}
use Rattle.sha2.specs.Sha256.{compress, digest_bytes, first_words, hash_after, initial_hash_256, padded_message, padding, sha256, word_at}

-- a word of the front of a text
word_at-left : (l r : List ℕ) (i : ℕ) → i + 4 ≤ length l → word_at (l ++ r) i ≡ word_at l i
word_at-left l r i fits =
    rw (
      get_or_append_left l r 0 i (omega arith),
      get_or_append_left l r 0 (i + 1) (omega arith),
      get_or_append_left l r 0 (i + 2) (omega arith),
      get_or_append_left l r 0 (i + 3) (omega arith),
    ) refl

behind : (l r : List ℕ) (n i k : ℕ) → length l ≡ n → k ≡ n + i → slice_index (l ++ r) k ≡ slice_index r i
behind l r n i k len at =
    let low : k - n ≡ i = omega arith in
    get_or-append_right l r n k 0 len (omega arith) ∙ ap (slice_index r) low

-- a word of what stands behind the front
word_at-right : (l r : List ℕ) (n i k : ℕ) → length l ≡ n → k ≡ n + i → word_at (l ++ r) k ≡ word_at r i
word_at-right l r n i k len at =
    rw (
      behind l r n i k len at,
      behind l r n (i + 1) (k + 1) len (omega arith),
      behind l r n (i + 2) (k + 2) len (omega arith),
      behind l r n (i + 3) (k + 3) len (omega arith),
    ) refl

-- the sixteen words of a block
abbrev sixteen : List ℕ → List ℕ
sixteen b = word_at b 0 ∷ word_at b 4 ∷ word_at b 8 ∷ word_at b 12 ∷ word_at b 16 ∷ word_at b 20 ∷ word_at b 24 ∷ word_at b 28 ∷ word_at b 32
    ∷ word_at b 36 ∷ word_at b 40 ∷ word_at b 44 ∷ word_at b 48 ∷ word_at b 52 ∷ word_at b 56 ∷ word_at b 60 ∷ []

pub first_words_sixteen : (b : List ℕ) → sixteen b ≡ first_words b 16
unfolding first_words
first_words_sixteen b = refl

-- the words of the two halves
pub pair_block : (l r : List ℕ) → length l ≡ 32 → length r ≡ 32
    → word_at l 0 ∷ word_at l 4 ∷ word_at l 8 ∷ word_at l 12 ∷ word_at l 16 ∷ word_at l 20 ∷ word_at l 24 ∷ word_at l 28 ∷ word_at r 0 ∷ word_at r 4
    ∷ word_at r 8 ∷ word_at r 12 ∷ word_at r 16 ∷ word_at r 20 ∷ word_at r 24 ∷ word_at r 28 ∷ []
    ≡ first_words (l ++ r) 16
pair_block l r ll lr =
    let words : word_at l 0 ∷ word_at l 4 ∷ word_at l 8 ∷ word_at l 12 ∷ word_at l 16 ∷ word_at l 20 ∷ word_at l 24 ∷ word_at l 28 ∷ word_at r 0
    ∷ word_at r 4 ∷ word_at r 8 ∷ word_at r 12 ∷ word_at r 16 ∷ word_at r 20 ∷ word_at r 24 ∷ word_at r 28 ∷ []
    ≡ sixteen (l ++ r) =
    λ i. sym (word_at-left l r 0 (omega arith)) i
    ∷ sym (word_at-left l r 4 (omega arith)) i
    ∷ sym (word_at-left l r 8 (omega arith)) i
    ∷ sym (word_at-left l r 12 (omega arith)) i
    ∷ sym (word_at-left l r 16 (omega arith)) i
    ∷ sym (word_at-left l r 20 (omega arith)) i
    ∷ sym (word_at-left l r 24 (omega arith)) i
    ∷ sym (word_at-left l r 28 (omega arith)) i
    ∷ sym (word_at-right l r 32 0 32 ll (omega arith)) i
    ∷ sym (word_at-right l r 32 4 36 ll (omega arith)) i
    ∷ sym (word_at-right l r 32 8 40 ll (omega arith)) i
    ∷ sym (word_at-right l r 32 12 44 ll (omega arith)) i
    ∷ sym (word_at-right l r 32 16 48 ll (omega arith)) i
    ∷ sym (word_at-right l r 32 20 52 ll (omega arith)) i
    ∷ sym (word_at-right l r 32 24 56 ll (omega arith)) i
    ∷ sym (word_at-right l r 32 28 60 ll (omega arith)) i ∷ [] in
    words ∙ first_words_sixteen (l ++ r)

two_blocks : (h m p : List ℕ) → length m ≡ 64 → length p ≡ 64 → hash_after h (m ++ p) (length (m ++ p) / 64) ≡ compress (compress h m) p
unfolding hash_after
two_blocks h m p lm lp =
    let count : length (m ++ p) / 64 ≡ 2 = omega (arith, length-append m p) in
    let first : take 64 (m ++ p) ≡ m = take_at m p 64 (omega arith) in
    let tail : drop 64 (m ++ p) ≡ p = drop-append-le 64 m p (omega arith) ∙ ap (λ (x : List ℕ). x ++ p) (drop_all 64 m (omega arith)) in
    let second : take 64 (drop 64 (m ++ p)) ≡ p = ap (take 64) tail ∙ take_all 64 p (omega arith) in
    rw count (λ i. compress (compress h (first i)) (second i))

-- the digest of a pair is that of the state after its two blocks
pub sha256_of_pair : (l r : List ℕ) → length l ≡ 32 → length r ≡ 32
    → digest_bytes (compress (compress initial_hash_256 (l ++ r)) (padding 64)) 8 ≡ sha256 (l ++ r)
unfolding sha256
sha256_of_pair l r ll lr =
    let both : length (l ++ r) ≡ 64 = omega (arith, length-append l r) in
    let padded : padded_message (l ++ r) ≡ (l ++ r) ++ padding 64 = rw both refl in
    rw padded (ap (λ (s : List ℕ). digest_bytes s 8) (sym (two_blocks initial_hash_256 (l ++ r) (padding 64) both refl)))

-- the words of a digest, and those of its padding
pub digest_block : (h : List ℕ)
    → slice_index h 0 < 2 ^ 32 → slice_index h 1 < 2 ^ 32 → slice_index h 2 < 2 ^ 32 → slice_index h 3 < 2 ^ 32
    → slice_index h 4 < 2 ^ 32 → slice_index h 5 < 2 ^ 32 → slice_index h 6 < 2 ^ 32 → slice_index h 7 < 2 ^ 32
    → slice_index h 0 ∷ slice_index h 1 ∷ slice_index h 2 ∷ slice_index h 3 ∷ slice_index h 4 ∷ slice_index h 5 ∷ slice_index h 6 ∷ slice_index h 7
    ∷ 0x80000000 ∷ 0 ∷ 0 ∷ 0 ∷ 0 ∷ 0 ∷ 0 ∷ 256 ∷ []
    ≡ first_words (padded_message (digest_bytes h 8)) 16
unfolding digest_bytes
digest_block h h0 h1 h2 h3 h4 h5 h6 h7 =
    let b = padded_message (digest_bytes h 8) in
    let words : slice_index h 0 ∷ slice_index h 1 ∷ slice_index h 2 ∷ slice_index h 3 ∷ slice_index h 4 ∷ slice_index h 5 ∷ slice_index h 6
    ∷ slice_index h 7
    ∷ 0x80000000 ∷ 0 ∷ 0 ∷ 0 ∷ 0 ∷ 0 ∷ 0 ∷ 256 ∷ [] ≡ sixteen b =
    λ i. sym (from_be_bytes-to_be_bytes_4 (slice_index h 0) h0) i
    ∷ sym (from_be_bytes-to_be_bytes_4 (slice_index h 1) h1) i
    ∷ sym (from_be_bytes-to_be_bytes_4 (slice_index h 2) h2) i
    ∷ sym (from_be_bytes-to_be_bytes_4 (slice_index h 3) h3) i
    ∷ sym (from_be_bytes-to_be_bytes_4 (slice_index h 4) h4) i
    ∷ sym (from_be_bytes-to_be_bytes_4 (slice_index h 5) h5) i
    ∷ sym (from_be_bytes-to_be_bytes_4 (slice_index h 6) h6) i
    ∷ sym (from_be_bytes-to_be_bytes_4 (slice_index h 7) h7) i
    ∷ 0x80000000 ∷ 0 ∷ 0 ∷ 0 ∷ 0 ∷ 0 ∷ 0 ∷ 256 ∷ [] in
    words ∙ first_words_sixteen b

one_block : (h p : List ℕ) → length p ≡ 64 → hash_after h p (length p / 64) ≡ compress h p
unfolding hash_after
one_block h p len =
    let whole : take 64 p ≡ p = take_all 64 p (omega arith) in
    let count : length p / 64 ≡ 1 = omega arith in
    rw count (ap (compress h) whole)

length-padded_digest : (h : List ℕ) → length (padded_message (digest_bytes h 8)) ≡ 64
unfolding digest_bytes
length-padded_digest h = refl

-- the digest of a digest is that of the state after its one block
pub sha256_of_digest : (h : List ℕ) → digest_bytes (compress initial_hash_256 (padded_message (digest_bytes h 8))) 8 ≡ sha256 (digest_bytes h 8)
unfolding sha256
sha256_of_digest h =
    ap (λ (s : List ℕ). digest_bytes s 8) (sym (one_block initial_hash_256 (padded_message (digest_bytes h 8)) (length-padded_digest h)))

-- the words of a hash value
digest_words : (h : List ℕ)
    → (((((((to_be_bytes w32 (slice_index h 0) ++ to_be_bytes w32 (slice_index h 1)) ++ to_be_bytes w32 (slice_index h 2))
    ++ to_be_bytes w32 (slice_index h 3))
    ++ to_be_bytes w32 (slice_index h 4)) ++ to_be_bytes w32 (slice_index h 5)) ++ to_be_bytes w32 (slice_index h 6))
    ++ to_be_bytes w32 (slice_index h 7))
    ≡ digest_bytes h 8
unfolding digest_bytes
digest_words h = refl

-- the same of one lane
pub digest_of_lane : (s : List (List ℕ)) (j : ℕ)
    → (((((((to_be_bytes w32 (slice_index (slice_index_or s 0 []) j) ++ to_be_bytes w32 (slice_index (slice_index_or s 1 []) j))
    ++ to_be_bytes w32 (slice_index (slice_index_or s 2 []) j)) ++ to_be_bytes w32 (slice_index (slice_index_or s 3 []) j))
    ++ to_be_bytes w32 (slice_index (slice_index_or s 4 []) j)) ++ to_be_bytes w32 (slice_index (slice_index_or s 5 []) j))
    ++ to_be_bytes w32 (slice_index (slice_index_or s 6 []) j)) ++ to_be_bytes w32 (slice_index (slice_index_or s 7 []) j))
    ≡ digest_bytes (lane j s) 8
digest_of_lane s j =
    rw (
      slice_index-lane s j 0,
      slice_index-lane s j 1,
      slice_index-lane s j 2,
      slice_index-lane s j 3,
      slice_index-lane s j 4,
      slice_index-lane s j 5,
      slice_index-lane s j 6,
      slice_index-lane s j 7,
    ) at (digest_words (lane j s))

-- the digest of a text is that of the state after all of its blocks
pub sha256_of_state : (m : List ℕ) (blocks : ℕ) → length (padded_message m) ≡ 64 * blocks
    → digest_bytes (hash_after initial_hash_256 (padded_message m) blocks) 8 ≡ sha256 m
unfolding sha256
sha256_of_state m blocks long =
    let count : blocks ≡ length (padded_message m) / 64 = omega (arith, long) in
    ap (λ (n : ℕ). digest_bytes (hash_after initial_hash_256 (padded_message m) n) 8) count
