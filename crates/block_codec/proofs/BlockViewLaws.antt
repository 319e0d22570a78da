-- What a block's view gives its accessors.
use Rattle.std.proofs.Common.{◌≡◌, ℕ, ◌+◌, ◌-◌, ◌^◌, ◌<◌, ◌≤◌, List, [], ◌∷◌, ◌++◌, length, take, get_or, sym, arith}
use Rattle.std.specs.List.{flat_map}
use Rattle.std.proofs.lemmas.List.{length-append, length-map, take_at, take_more, append-nil}
use Rattle.std.proofs.lemmas.List.Folds.{length-flat_map-take}
use Rattle.std.proofs.lemmas.List.Concat.{flat_map-cons}
use Rattle.std.proofs.lemmas.Grind.{flat_map-append}
use Rattle.uo_base.specs.Compact.{compact, counted}
use Rattle.uo_digest.specs.declared.digest.Digest.{Digest}
use Rattle.tx_codec.specs.Transaction.{Transaction, tx_text, legacy_text}
use Rattle.tx_codec.proofs.ViewLaws.{flat-longer, tx-above, legacy-shorter}
use Rattle.block_codec.specs.declared.header.HeaderView.{HeaderView}
use Rattle.block_codec.specs.Block.{Block, HeaderFits, header_text}
use Rattle.block_codec.specs.Views.{IsBlockView}

-- the texts of the transactions are a part of the whole
txs_shorter : (h c t : List ℕ) → length t ≤ length (h ++ (c ++ t))
txs_shorter h c t = simp length-append (omega arith)

pub all_below : (bytes : List ℕ) (txids : List Digest) (b : Block) → IsBlockView bytes txids b → length (flat_map tx_text b.txs) ≤ length bytes
all_below bytes txids b v = rw v.text (txs_shorter (header_text b.header) (compact (length b.txs)) (flat_map tx_text b.txs))

pub count_below : (bytes : List ℕ) (txids : List Digest) (b : Block) → IsBlockView bytes txids b → length b.txs < 2 ^ 32
count_below bytes txids b v = omega (arith, flat-longer tx_text tx-above b.txs, all_below bytes txids b v, v.short)

pub ids_below : (bytes : List ℕ) (txids : List Digest) (b : Block) → IsBlockView bytes txids b → length txids < 2 ^ 32
ids_below bytes txids b v = rw v.ids (simp length-map (count_below bytes txids b v))

pub header_len : (h : HeaderView) → HeaderFits h → length (header_text h) ≡ 80
header_len h fits = simp length-append (omega (arith, fits.prev, fits.merkle))

pub header_is_front : (bytes : List ℕ) (txids : List Digest) (b : Block) → IsBlockView bytes txids b → take 80 bytes ≡ header_text b.header
header_is_front bytes txids b v = rw v.text (take_at (header_text b.header) (counted tx_text b.txs) 80 (header_len b.header v.fits.header))

pub header_inside : (bytes : List ℕ) (txids : List Digest) (b : Block) → IsBlockView bytes txids b → 80 ≤ length bytes
header_inside bytes txids b v = rw v.text
    (omega (arith, header_len b.header v.fits.header, length-append (header_text b.header) (counted tx_text b.txs)))

-- ---- the weight

-- one text more
flat-more : {X : Type 0} (f : X → List ℕ) (xs : List X) (i : ℕ) (x : X) → i < length xs → x ≡ get_or xs i x
    → length (flat_map f (take (i + 1) xs)) ≡ length (flat_map f (take i xs)) + length (f x)
flat-more f xs i x lt is =
    let one : flat_map f (x ∷ []) ≡ f x = rw flat_map-cons (append-nil (f x)) in
    rw (take_more xs i x lt, ← is, flat_map-append, one) (length-append (flat_map f (take i xs)) (f x))

-- what the witnesses of the first i transactions have, and of one more
pub record WitnessMore (w i : ℕ) (txs : List Transaction) (tx : Transaction) : Type 0 where
  pub below : w + (length (tx_text tx) - length (legacy_text tx)) < 2 ^ 32
  pub adds : w + (length (tx_text tx) - length (legacy_text tx)) + length (flat_map legacy_text (take (i + 1) txs))
      ≡ length (flat_map tx_text (take (i + 1) txs))

pub witness_more : (w i : ℕ) (txs : List Transaction) (tx : Transaction) → i < length txs → tx ≡ get_or txs i tx
    → length (flat_map tx_text txs) < 2 ^ 32
    → w + length (flat_map legacy_text (take i txs)) ≡ length (flat_map tx_text (take i txs)) → WitnessMore w i txs tx
witness_more w i txs tx lt is all so_far =
    let inside : length (flat_map tx_text (take i txs)) + length (tx_text tx) ≤ length (flat_map tx_text txs) =
    rw (sym is) at (length-flat_map-take tx_text txs i tx lt) in
    record {
      below = omega (arith, so_far, inside, all);
      adds = rw (flat-more legacy_text txs i tx lt is, flat-more tx_text txs i tx lt is) (omega (arith, so_far, legacy-shorter tx));
    }
