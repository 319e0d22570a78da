-- Parts of a text that goes on, and of the bytes behind its last whole block.
use Rattle.std.proofs.Common.{◌≡◌, ℕ, ◌+◌, ◌-◌, ◌≤◌, ◌∷◌, List, ◌++◌, length, take, drop, replicate, slice_set, arith, refl, sym}
use Rattle.std.proofs.Common.{ap, ◌∙◌, length-append, length-drop, add-one}
use Rattle.std.proofs.Math.Seq.{drop-append-add, set-append_seam, take-append-add}
use Rattle.std.proofs.lemmas.List.{append_assoc, drop-append-le, drop-replicate, length-replicate, length-take-le, take-append-drop, take-append-le}
use Rattle.std.proofs.lemmas.List.{take-replicate}
use Rattle.std.proofs.lemmas.Slice.{take-put_mid}
use borrow.Rule.Slice.PartMut.{put_mid}

part_in_front : (n a : ℕ) (x y : List ℕ) → a + n ≤ length x → take n (drop a (x ++ y)) ≡ take n (drop a x)
part_in_front n a x y fits = rw (drop-append-le a x y (omega arith)) (take-append-le n (drop a x) y (omega (arith, length-drop a x)))

part_of_front : (n a w : ℕ) (t : List ℕ) → a + n ≤ w → w ≤ length t → take n (drop a (take w t)) ≡ take n (drop a t)
part_of_front n a w t fits within =
    let same = part_in_front n a (take w t) (drop w t) (omega (arith, length-take-le w t within)) in
    sym (rw (take-append-drop w t) at same)

-- a block of the whole ones
pub block_in_text : (n a w : ℕ) (t y : List ℕ) → a + n ≤ w → w ≤ length t → take n (drop a (take w t ++ y)) ≡ take n (drop a t)
block_in_text n a w t y fits within =
    part_in_front n a (take w t) y (omega (arith, length-take-le w t within)) ∙ part_of_front n a w t fits within

-- a block behind them
pub block_in_tail : (n a b w e : ℕ) (t tail : List ℕ) → w ≤ length t → a ≡ w + b → b + n ≤ e → e ≤ length tail
    → take n (drop a (take w t ++ take e tail)) ≡ take n (drop b tail)
block_in_tail n a b w e t tail within at fits all =
    let place : a ≡ length (take w t) + b = omega (arith, length-take-le w t within) in
    ap (λ (i : ℕ). take n (drop i (take w t ++ take e tail))) place
    ∙ ap (take n) (drop-append-add (take w t) (take e tail) b)
    ∙ part_of_front n b e tail fits all

-- what is left of a text, a byte, zeros, and bytes up to an end
pub tail_is : (rest zeros copied written bytes : List ℕ) (size e n k z v d : ℕ) → zeros ≡ replicate size d → copied ≡ rest → written ≡ bytes
    → length rest + (z + 1) ≡ n → n + length bytes ≡ e → e ≤ size
    → take e (put_mid n k (slice_set (copied ++ drop (length rest) zeros) (length rest) v) written) ≡ rest ++ (v ∷ replicate z d ++ bytes)
tail_is rest zeros copied written bytes size e n k z v d all same ends at sum fits =
    let used = length rest in
    let more = size - used - 1 in
    let left : drop used (replicate size d) ≡ d ∷ replicate more d = drop-replicate used size d ∙ ap (λ (m : ℕ). replicate m d) one_more
    ∙ rw add-one refl in
    let marked : slice_set (copied ++ drop used zeros) used v ≡ rest ++ v ∷ replicate more d =
    rw (same, all, left) (set-append_seam rest d (replicate more d) v) in
    let zeroed : take (z + 1) (v ∷ replicate more d) ≡ v ∷ replicate z d = rw (add-one, take-replicate z more d (omega arith)) refl in
    let front : take n (rest ++ v ∷ replicate more d) ≡ rest ++ v ∷ replicate z d =
    ap (λ (m : ℕ). take m (rest ++ v ∷ replicate more d)) (sym at) ∙ take-append-add rest (v ∷ replicate more d) (z + 1)
    ∙ ap (λ (x : List ℕ). rest ++ x) zeroed in
    let long : n ≤ length (rest ++ v ∷ replicate more d) = omega (arith, length-append rest (v ∷ replicate more d), filled) in
    rw (marked, ends, take-put_mid n k (rest ++ v ∷ replicate more d) bytes e (omega arith) long, front) (append_assoc rest (v ∷ replicate z d) bytes)
  where
    one_more : size - length rest ≡ (size - length rest - 1) + 1
    one_more = omega arith

    filled : length (replicate (size - length rest - 1) d) ≡ size - length rest - 1
    filled = length-replicate (size - length rest - 1) d

-- a text with what goes behind it
pub padded_is : (w : ℕ) (t tail pad : List ℕ) → tail ≡ drop w t ++ pad → take w t ++ tail ≡ t ++ pad
padded_is w t tail pad behind =
    ap (λ (x : List ℕ). take w t ++ x) behind ∙ sym (append_assoc (take w t) (drop w t) pad) ∙ ap (λ (x : List ℕ). x ++ pad) (take-append-drop w t)
