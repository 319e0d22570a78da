-- Piles that stand one behind the other, as one list.
use Rattle.std.proofs.Common.{◌≡◌, ℕ, zero, suc, ◌+◌, ◌-◌, ◌≤◌, ◌<◌, false, List, [], ◌∷◌, ◌++◌, length, take, refl, sym, ap, ◌∙◌, arith}
use Rattle.std.specs.Prelude.{slice_index_or, slice_set}
use Rattle.std.specs.List.{remove}
use Rattle.std.proofs.lemmas.List.{length-append, append-nil}
use Rattle.std.proofs.lemmas.List.Concat.{flat_map-append, get_or-flat_map}
use Rattle.std.proofs.lemmas.List.Edits.{length-remove, remove-append_left, remove-append_right}
use Rattle.std.proofs.Math.Seq.{take-length}
use Rattle.chain_gen.specs.declared.coin.Coin.{Coin}
use Rattle.chain_gen.specs.Coins.{zeros, coin_at}
use Rattle.chain_gen.proofs.Plain.{same_index}
use Rattle.chain_gen.specs.Piles.{all_of, IsCounted, IsAt}

abbrev none : Coin
none = record { txid = zeros; index = 0; amount = 0; height = 0; coinbase = false }

abbrev pile_at : List (List Coin) → ℕ → List Coin
pile_at piles number = slice_index_or piles number []

-- ---- the way to an index

pub all-more : (piles : List (List Coin)) (n : ℕ) → n < length piles
    → length (all_of (take (n + 1) piles)) ≡ length (all_of (take n piles)) + length (pile_at piles n)
all-more [] n l = absurd (omega arith)
all-more (p ∷ ps) zero l = (let e = length-append p [] in omega (arith, e))
all-more (p ∷ ps) (suc n) l =
    let a = length-append p (all_of (take (n + 1) ps)) in
    let b = length-append p (all_of (take n ps)) in
    let e = all-more ps n (omega arith) in
    let step : length (p ++ all_of (take (n + 1) ps)) ≡ length (p ++ all_of (take n ps)) + length (pile_at ps n) = omega (arith, a, b, e) in
    ap (λ m. length (all_of (take m (p ∷ ps)))) one_more ∙ step
  where
    one_more : suc n + 1 ≡ suc (n + 1)
    one_more = omega arith

pub none-behind : (piles : List (List Coin)) (index within : ℕ) → index < length (all_of piles)
    → index ≡ length (all_of (take (length piles) piles)) + within → ⊥
none-behind piles index within l e = let a = ap (λ (ps : List (List Coin)). length (all_of ps)) (take-length piles) in omega (arith, l, e, a)

-- ---- the coin there

pub same-coin : (piles : List (List Coin)) (index number within : ℕ) → IsAt piles index number within
    → coin_at (pile_at piles number) within ≡ coin_at (all_of piles) index
same-coin piles index number within a = sym
    (ap (coin_at (all_of piles)) a.before ∙ get_or-flat_map (λ (pile : List Coin). pile) piles number within [] none a.there a.inside)

taken-at : (piles : List (List Coin)) (number within : ℕ) → number < length piles → within < length (pile_at piles number)
    → all_of (slice_set piles number (remove (pile_at piles number) within)) ≡ remove (all_of piles) (length (all_of (take number piles)) + within)
taken-at [] number within a b = absurd (omega arith)
taken-at (p ∷ ps) zero within a b = sym (ap (remove (p ++ all_of ps)) same ∙ remove-append_left p (all_of ps) within b)
  where
    same : 0 + within ≡ within
    same = omega arith
taken-at (p ∷ ps) (suc n) within a b =
    ap (λ (xs : List Coin). p ++ xs) (taken-at ps n within (omega arith) b)
    ∙ sym (remove-append_right p (all_of ps) (length p) place refl (omega (arith, len)) ∙ ap (λ i. p ++ remove (all_of ps) i) back)
  where
    place : ℕ
    place = length (p ++ all_of (take n ps)) + within

    len : length (p ++ all_of (take n ps)) ≡ length p + length (all_of (take n ps))
    len = length-append p (all_of (take n ps))

    back : place - length p ≡ length (all_of (take n ps)) + within
    back = omega (arith, len)

pub taken : (piles : List (List Coin)) (index number within : ℕ) → IsAt piles index number within
    → all_of (slice_set piles number (remove (pile_at piles number) within)) ≡ remove (all_of piles) index
taken piles index number within a = taken-at piles number within a.there a.inside ∙ ap (remove (all_of piles)) (sym a.before)

-- ---- the count

pub counted-less : (piles after : List (List Coin)) (len index : ℕ) → IsCounted piles len → index < length (all_of piles)
    → all_of after ≡ remove (all_of piles) index → IsCounted after (len - 1)
counted-less piles after len index c l e = record {
  count = (let r = length-remove (all_of piles) index l in let a = ap length e in let n = c.count in omega (arith, r, a, n));
  few = (let f = c.few in omega (arith, f));
}

pub pushed : (piles : List (List Coin)) (pile : List Coin) → all_of (piles ++ pile ∷ []) ≡ all_of piles ++ pile
pushed piles pile = flat_map-append (λ (p : List Coin). p) piles (pile ∷ []) ∙ ap (λ (xs : List Coin). all_of piles ++ xs) (append-nil pile)

pub counted-more : (piles after : List (List Coin)) (pile : List Coin) (len more : ℕ) → IsCounted piles len → more ≡ length pile
    → len + more ≤ 4294967295 → after ≡ piles ++ pile ∷ [] → IsCounted after (len + more)
counted-more piles after pile len more c e few is = record {
  count = (let a = length-append (all_of piles) pile in let p = ap (λ (ps : List (List Coin)). length (all_of ps)) is in
      let q = ap length (pushed piles pile) in let n = c.count in omega (arith, a, p, q, n, e));
  few = few;
}

-- ---- one is taken

seen_is : (piles : List (List Coin)) (index number within : ℕ) (seen : List Coin) → IsAt piles index number within
    → seen ≡ slice_index_or piles number seen → seen ≡ pile_at piles number
seen_is piles index number within seen a e = e ∙ same_index piles number seen [] a.there

pub coin-there : (piles : List (List Coin)) (index number within : ℕ) (seen : List Coin) → IsAt piles index number within
    → seen ≡ slice_index_or piles number seen → coin_at seen within ≡ coin_at (all_of piles) index
coin-there piles index number within seen a e = ap (λ (pile : List Coin). coin_at pile within) (seen_is piles index number within seen a e)
    ∙ same-coin piles index number within a

pub others-left : (piles : List (List Coin)) (index number within : ℕ) (seen others : List Coin) → IsAt piles index number within
    → seen ≡ slice_index_or piles number seen → others ≡ remove seen within → all_of (slice_set piles number others) ≡ remove (all_of piles) index
others-left piles index number within seen others a e is = ap (λ (pile : List Coin). all_of (slice_set piles number pile))
    (is ∙ ap (λ (pile : List Coin). remove pile within) (seen_is piles index number within seen a e)) ∙ taken piles index number within a
