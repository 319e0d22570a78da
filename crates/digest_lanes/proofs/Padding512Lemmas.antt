-- The padding of a text that goes on behind whole blocks.
use Rattle.std.proofs.Common.{◌≡◌, ℕ, ◌+◌, ◌-◌, ◌*◌, ◌/◌, ◌%◌, ◌^◌, ◌∷◌, List, ◌++◌, length, drop, replicate, arith, refl, length-drop}
use Rattle.std.specs.Int.{w128, to_be_bytes}
use Rattle.sha2.specs.Sha512.{padding}

-- what is left behind its last whole block fills a block as the whole text does
pub tail_padding : (t rest : List ℕ) (before : ℕ) → before % 128 ≡ 0 → rest ≡ drop (length t / 128 * 128) t
    → rest ++ (0x80 ∷ replicate ((239 - length rest) % 128) 0 ++ to_be_bytes w128 ((before + length t) * 8 % 2 ^ 128))
    ≡ drop (length t / 128 * 128) t ++ padding (before + length t)
tail_padding t rest before whole same =
    let used : length (drop (length t / 128 * 128) t) ≡ (before + length t) % 128 = omega (arith, length-drop (length t / 128 * 128) t) in
    rw (same, used) refl
