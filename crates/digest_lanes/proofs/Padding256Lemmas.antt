-- The padding of a text.
use Rattle.std.proofs.Common.{◌≡◌, ℕ, ◌+◌, ◌-◌, ◌*◌, ◌/◌, ◌%◌, ◌^◌, ◌≤◌, ◌∷◌, List, ◌++◌, length, drop, replicate, arith, refl, ap, ◌∙◌}
use Rattle.std.proofs.Common.{length-append, length-drop}
use Rattle.std.proofs.lemmas.List.{length-replicate}
use Rattle.std.specs.Int.{w64, to_be_bytes}
use Rattle.sha2.specs.Sha256.{padded_message, padding}
use Rattle.digest_lanes.specs.Groups.{HasLength, block_lengths}

-- what is left behind its last whole block fills a block as the whole text does
pub tail_padding : (t rest : List ℕ) → rest ≡ drop (length t / 64 * 64) t
    → rest ++ (0x80 ∷ replicate ((119 - length rest) % 64) 0 ++ to_be_bytes w64 (length t * 8 % 2 ^ 64)) ≡ drop (length t / 64 * 64) t
    ++ padding (length t)
tail_padding t rest same =
    let used : length (drop (length t / 64 * 64) t) ≡ length t % 64 = omega (arith, length-drop (length t / 64 * 64) t) in
    rw (same, used) refl

-- the blocks that are made of a text of such a length
pub blocks_made : (blocks : ℕ) (t : List ℕ) → 1 ≤ blocks → HasLength (block_lengths 64 8 blocks) t → length (padded_message t) ≡ 64 * blocks
blocks_made blocks t some (low, high) =
    let z = (119 - length t % 64) % 64 in
    let zeros : length (replicate z 0 ++ to_be_bytes w64 (length t * 8 % 2 ^ 64)) ≡ z + 8 =
    length-append (replicate z 0) (to_be_bytes w64 (length t * 8 % 2 ^ 64)) ∙ ap (λ (k : ℕ). k + 8) (length-replicate z 0) in
    omega (arith, some, low, high, zeros, length-append t (padding (length t)))
