-- Pairs of a level, one after the other.
use Rattle.std.proofs.Common.{◌≡◌, ℕ, suc, ◌+◌, ◌*◌, ◌<◌, ◌≤◌, Bool, true, false, List, [], ◌∷◌, ◌++◌, length, take, drop, set, get_or, refl, sym, ap}
use Rattle.std.proofs.Common.{◌∙◌, arith, append_assoc, append-nil}
use Rattle.std.proofs.lemmas.List.{take_more_set, take_all, drop-set-lt, drop_all, drop-drop}
use Rattle.std.proofs.Math.ListN.{length-set}
use Rattle.std.proofs.Math.Seq.{drop-cons, take-append_seam}
use Rattle.std.proofs.lemmas.Slice.{drop-append-drop}
use Rattle.std.proofs.lemmas.Grind.{common_steps}
use Rattle.uo_digest.specs.declared.digest.Digest.{Digest}
use Rattle.block_codec.specs.Merkle.{hash_over, is_same, paired, repeats_from}
use Rattle.block_codec.specs.Pairs.{hashes_over, HasFirst, IsAbove, IsLifted, TellsRepeat}

-- ---- what is left of a level

at_last : (xs : List Digest) (k : ℕ) (d : Digest) → k < length xs → length xs ≤ k + 1 → drop k xs ≡ get_or xs k d ∷ []
at_last xs k d lt end = drop-cons xs k d lt ∙ ap (λ (ys : List Digest). get_or xs k d ∷ ys) (drop_all (suc k) xs (omega arith))

at_pair : (xs : List Digest) (k : ℕ) (d right : Digest) → k + 1 < length xs → right ≡ get_or xs (k + 1) right
    → drop k xs ≡ get_or xs k d ∷ right ∷ drop (k + 2) xs
at_pair xs k d right lt is =
    let first : drop k xs ≡ get_or xs k d ∷ drop (suc k) xs = drop-cons xs k d (omega arith) in
    let second : drop (suc k) xs ≡ get_or xs (suc k) right ∷ drop (suc (suc k)) xs = drop-cons xs (suc k) right (omega arith) in
    let next : suc k ≡ k + 1 = omega arith in
    let after : suc (suc k) ≡ k + 2 = omega arith in
    first ∙ ap (λ (ys : List Digest). get_or xs k d ∷ ys) (second ∙ rw (after, next, ← is) refl)

-- ---- what its first pair gives

pub last_above : (xs : List Digest) (k : ℕ) (d : Digest) → k < length xs → length xs ≤ k + 1
    → IsAbove (hash_over (get_or xs k d) (get_or xs k d)) (drop k xs)
unfolding paired
last_above xs k d lt end = rw (at_last xs k d lt end) refl

pub both_above : (xs : List Digest) (k : ℕ) (d right : Digest) → k + 1 < length xs → right ≡ get_or xs (k + 1) right
    → IsAbove (hash_over (get_or xs k d) right) (drop k xs)
unfolding paired
both_above xs k d right lt is = rw (at_pair xs k d right lt is) refl

-- the last one alone is no repeat
pub last_tells : (xs : List Digest) (k : ℕ) → k < length xs → length xs ≤ k + 1 → TellsRepeat false (drop k xs)
unfolding repeats_from
last_tells xs k lt end = let none : Digest = record { 0 = [] } in rw (at_last xs k none lt end) (λ place. refl)

pub both_tell : (xs : List Digest) (k : ℕ) (d right : Digest) → k + 1 < length xs → right ≡ get_or xs (k + 1) right
    → TellsRepeat (is_same (get_or xs k d) right) (drop k xs)
unfolding repeats_from
both_tell xs k d right lt is = rw (at_pair xs k d right lt is) (by_test (is_same (get_or xs k d) right) refl)
  where
    by_test : (b : Bool) → is_same (get_or xs k d) right ≡ b → TellsRepeat b (get_or xs k d ∷ right ∷ drop (k + 2) xs)
    by_test true e = λ place. rw e refl
    by_test false e = λ place. rw e refl

-- ---- going over the pairs of a level, with the level above in place

pub lifted-start : (start : List Digest) → IsLifted start start 0
lifted-start start = record { len = refl; above = refl }

left-of : (now : List Digest) (i : ℕ) (hash : Digest) → drop 2 (drop (2 * i) now) ≡ drop (2 * (i + 1)) (set now i hash)
left-of now i hash =
    let next : 2 * i + 2 ≡ 2 * (i + 1) = omega arith in
    rw (drop-drop, next, drop-set-lt (2 * (i + 1)) now i hash (omega arith)) refl

pub lifted-more : (start now : List Digest) (i : ℕ) (hash : Digest) → 2 * i < length now → IsAbove hash (drop (2 * i) now) → IsLifted start now i
    → IsLifted start (set now i hash) (i + 1)
lifted-more start now i hash lt gives r =
    let inside : i < length now = omega arith in
    record {
      len = length-set now i hash ∙ r.len;
      above =
          r.above ∙ ap (λ ys. take i now ++ ys) gives ∙ sym (append_assoc (take i now) (hash ∷ []) (paired (drop 2 (drop (2 * i) now))))
          ∙ rw (take_more_set now i hash inside, left-of now i hash) refl;
    }

pub lifted-end : (start now : List Digest) (i : ℕ) → length now ≤ 2 * i → IsLifted start now i → take i now ≡ paired start
unfolding paired
lifted-end start now i end r =
    let nothing : paired (drop (2 * i) now) ≡ [] = rw (drop_all (2 * i) now end) refl in
    sym (r.above ∙ rw nothing (append-nil (take i now)))

-- what a list holds once the whole of it was lent and written
pub lent_whole : (xs ys : List Digest) (n : ℕ) → length xs ≡ length ys → n ≡ length ys → take n (xs ++ drop (length xs) ys) ≡ xs
lent_whole xs ys n same all =
    rw (drop_all (length xs) ys (omega arith), append-nil xs) (take_all n xs (omega arith))

-- the first pair of what is left
pair_at : (xs : List Digest) (k right next : ℕ) (d : Digest) → k + 1 < length xs → right ≡ k + 1 → next ≡ k + 2
    → paired (drop k xs) ≡ hash_over (get_or xs k d) (get_or xs right d) ∷ paired (drop next xs)
unfolding paired
pair_at xs k right next d lt at after =
    let one : suc k ≡ right = omega arith in
    let two : suc (suc k) ≡ next = omega arith in
    ap paired (drop-cons xs k d (omega arith) ∙ ap (λ (ys : List Digest). get_or xs k d ∷ ys) (drop-cons xs (suc k) d (omega arith)))
    ∙ rw (two, one) refl

pub eight_pairs : (xs : List Digest) (k : ℕ) (d : Digest) → k + 16 ≤ length xs
    → paired (drop k xs)
    ≡ hash_over (get_or xs k d) (get_or xs (k + 1) d) ∷ hash_over (get_or xs (k + 2) d) (get_or xs (k + 3) d)
    ∷ hash_over (get_or xs (k + 4) d) (get_or xs (k + 5) d) ∷ hash_over (get_or xs (k + 6) d) (get_or xs (k + 7) d)
    ∷ hash_over (get_or xs (k + 8) d) (get_or xs (k + 9) d) ∷ hash_over (get_or xs (k + 10) d) (get_or xs (k + 11) d)
    ∷ hash_over (get_or xs (k + 12) d) (get_or xs (k + 13) d) ∷ hash_over (get_or xs (k + 14) d) (get_or xs (k + 15) d)
    ∷ paired (drop (k + 16) xs)
eight_pairs xs k d within =
    rw (
      pair_at xs k (k + 1) (k + 2) d (omega arith) (omega arith) (omega arith),
      pair_at xs (k + 2) (k + 3) (k + 4) d (omega arith) (omega arith) (omega arith),
      pair_at xs (k + 4) (k + 5) (k + 6) d (omega arith) (omega arith) (omega arith),
      pair_at xs (k + 6) (k + 7) (k + 8) d (omega arith) (omega arith) (omega arith),
      pair_at xs (k + 8) (k + 9) (k + 10) d (omega arith) (omega arith) (omega arith),
      pair_at xs (k + 10) (k + 11) (k + 12) d (omega arith) (omega arith) (omega arith),
      pair_at xs (k + 12) (k + 13) (k + 14) d (omega arith) (omega arith) (omega arith),
      pair_at xs (k + 14) (k + 15) (k + 16) d (omega arith) (omega arith) (omega arith),
    ) refl

-- eight pairs at once
pub lifted-eight : (start now above : List Digest) (i : ℕ) (pairs : List (Digest × Digest)) → 2 * i + 16 ≤ length now → length above ≡ 8
    → paired (drop (2 * i) now) ≡ hashes_over pairs ++ paired (drop (2 * i + 16) now) → above ≡ hashes_over pairs → IsLifted start now i
    → IsLifted start (take i now ++ (above ++ drop 8 (drop i now))) (i + 8)
lifted-eight start now above i pairs within long gives is r =
    let front : length (take i now ++ above) ≡ i + 8 = grind (arith, common_steps) in
    let behind : drop 8 (drop i now) ≡ drop (i + 8) now = drop-drop 8 i now in
    let parted : take i now ++ (above ++ drop (i + 8) now) ≡ (take i now ++ above) ++ drop (i + 8) now =
    sym (append_assoc (take i now) above (drop (i + 8) now)) in
    let taken : take (i + 8) ((take i now ++ above) ++ drop (i + 8) now) ≡ take i now ++ above =
    ap (λ n. take n ((take i now ++ above) ++ drop (i + 8) now)) (sym front) ∙ take-append_seam (take i now ++ above) (drop (i + 8) now) in
    let twice : 2 * (i + 8) ≡ 2 * i + 16 = omega arith in
    let left : drop (2 * i + 16) ((take i now ++ above) ++ drop (i + 8) now) ≡ drop (2 * i + 16) now =
    drop-append-drop (i + 8) now (take i now ++ above) (2 * i + 16) (omega arith) front in
    record {
      len = grind (arith, common_steps);
      above =
          r.above ∙ ap (λ ys. take i now ++ ys) (gives ∙ ap (λ hs. hs ++ paired (drop (2 * i + 16) now)) (sym is))
          ∙ sym (append_assoc (take i now) above (paired (drop (2 * i + 16) now))) ∙ rw (behind, parted, taken, twice, left) refl;
    }

-- ---- going over the pairs of a level for the first repeat

-- None of the first i pairs is one.
abbrev pub NoRepeat : List Digest → ℕ → Type 0
NoRepeat level i = repeats_from 0 level ≡ repeats_from (2 * i) (drop (2 * i) level)

pub no-repeat-more : (level : List Digest) (i : ℕ) → TellsRepeat false (drop (2 * i) level) → NoRepeat level i → NoRepeat level (i + 1)
no-repeat-more level i tells r =
    let next : 2 * i + 2 ≡ 2 * (i + 1) = omega arith in
    r ∙ tells (2 * i) ∙ rw (drop-drop, next) refl

pub repeat-here : (level : List Digest) (i : ℕ) → TellsRepeat true (drop (2 * i) level) → NoRepeat level i → HasFirst (2 * i) (repeats_from 0 level)
repeat-here level i tells r = (repeats_from (2 * i + 2) (drop 2 (drop (2 * i) level)), r ∙ tells (2 * i))

pub no-repeat-end : (level : List Digest) (i : ℕ) → length level ≤ 2 * i → NoRepeat level i → repeats_from 0 level ≡ []
unfolding repeats_from
no-repeat-end level i end r = r ∙ rw (drop_all (2 * i) level end) refl
