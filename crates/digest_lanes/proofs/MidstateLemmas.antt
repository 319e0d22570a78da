-- Texts that go on behind whole blocks.
use Rattle.std.proofs.Common.{◌≡◌, ℕ, zero, suc, ◌+◌, ◌*◌, ◌-◌, ◌/◌, ◌%◌, ◌^◌, ◌≤◌, List, ◌++◌, length, replicate, take, drop, arith, sym, ap}
use Rattle.std.proofs.Common.{◌∙◌, length-append, add-zero}
use Rattle.std.proofs.Math.Seq.{drop-append-add}
use Rattle.std.proofs.lemmas.List.{append_assoc, length-replicate}
use Rattle.sha2.specs.Sha512.{compress, digest_bytes, hash_after, initial_hash_512_256, padded_message, padding, sha512_256}
use Rattle.sha2.proofs.Absorbing512.{hash_after-append, hash_after_next}
use Rattle.std.specs.Int.{w128, to_be_bytes}
use Rattle.digest_lanes.specs.Groups.{HasLength, block_lengths}
use Rattle.digest_lanes.specs.Midstate.{IsMidstate, padded_behind}
use Rattle.digest_lanes.specs.declared.midstate.Midstate.{Midstate}

-- the blocks behind whole ones are taken in from the hash value that these give
hash_after_behind : (h x y : List ℕ) (a k : ℕ) → length x ≡ a * 128 → hash_after h (x ++ y) (a + k) ≡ hash_after (hash_after h x a) y k
unfolding hash_after
hash_after_behind h x y a zero len = rw add-zero (hash_after-append h x y a (omega arith))
hash_after_behind h x y a (suc k) len =
    let next : a + suc k ≡ (a + k) + 1 = omega arith in
    let at : (a + k) * 128 ≡ length x + k * 128 = omega arith in
    let block : drop ((a + k) * 128) (x ++ y) ≡ drop (k * 128) y = ap (λ (i : ℕ). drop i (x ++ y)) at ∙ drop-append-add x y (k * 128) in
    ap (hash_after h (x ++ y)) next ∙ hash_after_next h (x ++ y) (a + k)
    ∙ ap (λ (b : List ℕ). compress (hash_after h (x ++ y) (a + k)) (take 128 b)) block
    ∙ ap (λ (s : List ℕ). compress s (take 128 (drop (k * 128) y))) (hash_after_behind h x y a k len)

-- the digest of a whole text, from the hash value behind its front
pub digest_behind : (s : Midstate) (before t : List ℕ) (blocks : ℕ) → IsMidstate s before → length (padded_behind s.taken t) ≡ 128 * blocks
    → take 32 (digest_bytes (hash_after s.state (padded_behind s.taken t) blocks) 8) ≡ sha512_256 (before ++ t)
unfolding sha512_256 padded_behind
digest_behind s before t blocks (whole, taken, state) long =
    let a = length before / 128 in
    let padded : padded_message (before ++ t) ≡ before ++ padded_behind s.taken t =
    rw (taken, length-append before t) (append_assoc before t (padding (length before + length t))) in
    let all : length (padded_message (before ++ t)) / 128 ≡ a + blocks =
    ap (λ (p : List ℕ). length p / 128) padded ∙ omega (arith, whole, long, length-append before (padded_behind s.taken t)) in
    let hash : hash_after initial_hash_512_256 (padded_message (before ++ t)) (length (padded_message (before ++ t)) / 128)
    ≡ hash_after s.state (padded_behind s.taken t) blocks =
    ap (hash_after initial_hash_512_256 (padded_message (before ++ t))) all
    ∙ ap (λ (p : List ℕ). hash_after initial_hash_512_256 p (a + blocks)) padded
    ∙ hash_after_behind initial_hash_512_256 before (padded_behind s.taken t) a blocks (omega arith)
    ∙ ap (λ (h : List ℕ). hash_after h (padded_behind s.taken t) blocks) (sym state) in
    ap (λ (h : List ℕ). take 32 (digest_bytes h 8)) (sym hash)

-- the blocks that are made of a text of such a length
pub blocks_made : (taken blocks : ℕ) (t : List ℕ) → taken % 128 ≡ 0 → 1 ≤ blocks → HasLength (block_lengths 128 16 blocks) t
    → length (padded_behind taken t) ≡ 128 * blocks
unfolding padded_behind
blocks_made taken blocks t whole some (low, high) =
    let z = (239 - (taken + length t) % 128) % 128 in
    let zeros : length (replicate z 0 ++ to_be_bytes w128 ((taken + length t) * 8 % 2 ^ 128)) ≡ z + 16 =
    length-append (replicate z 0) (to_be_bytes w128 ((taken + length t) * 8 % 2 ^ 128)) ∙ ap (λ (k : ℕ). k + 16) (length-replicate z 0) in
    omega (arith, whole, some, low, high, zeros, length-append t (padding (taken + length t)))
