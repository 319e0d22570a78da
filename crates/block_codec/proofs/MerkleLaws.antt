-- Levels of the merkle tree, what is repeated on them, and where they end.
use Rattle.std.proofs.Common.{◌≡◌, ℕ, zero, suc, ◌+◌, ◌-◌, ◌*◌, ◌^◌, ◌<◌, ◌≤◌, Bool, true, false, ◌⊎◌, List, [], ◌∷◌, ◌++◌, length, map, get_or, refl}
use Rattle.std.proofs.Common.{sym, ap, subst, ◌∙◌, arith, inl, inr, add-one, add-zero}
use Rattle.std.specs.List.{flat_map, range_with_len}
use Rattle.std.specs.Fn.{iterate}
use Rattle.std.specs.Cmp.Lexicographic.{same_text, other_text}
use Rattle.std.proofs.Math.Nat.{pow-suc}
use Rattle.std.proofs.lemmas.Bool.{cases_lt}
use Rattle.std.proofs.lemmas.List.Concat.{flat_map-cons}
use Rattle.uo_base.proofs.Formats.{found, some_is}
use Rattle.uo_digest.specs.declared.digest.Digest.{Digest}
use Rattle.block_codec.specs.Merkle.{is_same, paired, level_above, level, repeats_from, repeats, merkle_of, IsRepeat, IsFirstRepeat, IsRoot}
use Rattle.block_codec.specs.declared.merkle_tree.MerkleOutcome.TheVariants.{Root, Repeated}
use Rattle.block_codec.specs.Pairs.{HasFirst}

-- ---- levels

iterate-last : {A : Type 0} (h : A → A) (n : ℕ) (x : A) → iterate h (suc n) x ≡ h (iterate h n x)
iterate-last h zero x = refl
iterate-last h (suc n) x = iterate-last h n (h x)

pub level-more : (ids : List Digest) (k : ℕ) → level ids (k + 1) ≡ level_above (level ids k)
level-more ids k = rw add-one (iterate-last level_above k ids)

pub above-paired : (xs : List Digest) → 1 < length xs → level_above xs ≡ paired xs
unfolding level_above
above-paired [] lt = absurd (omega arith)
above-paired (x ∷ []) lt = absurd (omega arith)
above-paired (x ∷ y ∷ xs) lt = refl

-- half as many, rounded up
length-paired : (xs : List Digest) → (length xs ≤ 2 * length (paired xs)) × (2 * length (paired xs) ≤ length xs + 1)
unfolding paired
length-paired [] = (omega arith, omega arith)
length-paired (x ∷ []) = (omega arith, omega arith)
length-paired (x ∷ y ∷ xs) = let others = length-paired xs in (omega (arith, others.0), omega (arith, others.1))

pub paired-fewer : (xs above : List Digest) → 1 < length xs → above ≡ paired xs → length above < length xs
paired-fewer xs above lt is = omega (arith, (length-paired xs).1, ap length is)

pub paired-some : (xs above : List Digest) → 0 < length xs → above ≡ paired xs → 0 < length above
paired-some xs above lt is = omega (arith, (length-paired xs).0, ap length is)

-- the root stays
root-stays : (ids : List Digest) (root : Digest) (k n : ℕ) → level ids k ≡ root ∷ [] → level ids (n + k) ≡ root ∷ []
unfolding level_above
root-stays ids root k zero e = let same : 0 + k ≡ k = omega arith in rw same e
root-stays ids root k (suc n) e =
    let next : suc n + k ≡ (n + k) + 1 = omega arith in
    rw (next, level-more ids (n + k), root-stays ids root k n e) refl

pub root-later : (ids : List Digest) (root : Digest) (k l : ℕ) → k ≤ l → level ids k ≡ root ∷ [] → level ids l ≡ root ∷ []
root-later ids root k l le e = let same : l ≡ (l - k) + k = omega arith in rw same (root-stays ids root k (l - k) e)

-- ---- what is repeated on one level

is_same-true : (left right : Digest) → is_same left right ≡ true → left ≡ right
is_same-true left right e = ap (λ xs. let x : Digest = record { 0 = xs } in x) (same_text left.0 right.0 (sym e))

is_same-false : (left right : Digest) → is_same left right ≡ false → left ≡ right → ⊥
is_same-false left right e same = other_text left.0 right.0 (sym e) (ap (λ (d : Digest). d.0) same)

shifted : (x y : Digest) (xs : List Digest) (q : ℕ) → IsRepeat (x ∷ y ∷ xs) (suc (suc q)) → IsRepeat xs q
shifted x y xs q r = record {
  even = omega (arith, r.even);
  inside = omega (arith, r.inside);
  equal = rw add-one at r.equal ∙ rw add-one refl;
}

-- the first pair is no repeat
not-first : (x y : Digest) (xs : List Digest) → is_same x y ≡ false → IsRepeat (x ∷ y ∷ xs) 0 → ⊥
not-first x y xs differ r = is_same-false x y differ (some_is x y r.equal)

none-longer : (place : ℕ) (others : List ℕ) → place ∷ others ≡ [] → ⊥
none-longer place others e = cc

-- nothing is listed: nothing is repeated
pub no-repeat : (xs : List Digest) (p : ℕ) → repeats_from p xs ≡ [] → (q : ℕ) → IsRepeat xs q → ⊥
unfolding repeats_from
no-repeat [] p e q r = absurd (omega (arith, r.inside))
no-repeat (x ∷ []) p e q r = absurd (omega (arith, r.inside))
no-repeat (x ∷ y ∷ xs) p e q r = by_test (no-repeat xs (p + 2)) (is_same x y) refl q r where
  by_test : (repeats_from (p + 2) xs ≡ [] → (q : ℕ) → IsRepeat xs q → ⊥) → (b : Bool) → is_same x y ≡ b → (q : ℕ) → IsRepeat (x ∷ y ∷ xs) q → ⊥
  by_test others true same q r = none-longer p (repeats_from (p + 2) xs) (rw same at e)
  by_test others false differ zero r = not-first x y xs differ r
  by_test others false differ (suc zero) r = absurd (omega (arith, r.even))
  by_test others false differ (suc (suc q)) r = others (rw differ at e) q (shifted x y xs q r)

-- the place that is listed first, counted from p, is the first that is repeated
pub record FirstAt (xs : List Digest) (p place : ℕ) : Type 0 where
  pub at : ℕ
  pub is : place ≡ p + at
  pub here : IsRepeat xs at
  pub before : (r : ℕ) → r < at → IsRepeat xs r → ⊥

unshifted : (x y : Digest) (xs : List Digest) (q : ℕ) → IsRepeat xs q → IsRepeat (x ∷ y ∷ xs) (suc (suc q))
unshifted x y xs q r = record {
  even = omega (arith, r.even);
  inside = omega (arith, r.inside);
  equal = r.equal ∙ rw (add-one, add-one) refl;
}

head-is : (a b : ℕ) (xs ys : List ℕ) → a ∷ xs ≡ b ∷ ys → a ≡ b
head-is a b xs ys e = cc

pub first-repeat : (xs : List Digest) (p place : ℕ) → HasFirst place (repeats_from p xs) → FirstAt xs p place
unfolding repeats_from
first-repeat [] p place begins = absurd (none-longer place begins.0 (sym begins.1))
first-repeat (x ∷ []) p place begins = absurd (none-longer place begins.0 (sym begins.1))
first-repeat (x ∷ y ∷ xs) p place begins = by_test (first-repeat xs (p + 2) place) (is_same x y) refl where
  here : is_same x y ≡ true → FirstAt (x ∷ y ∷ xs) p place
  here same = record {
    at = 0;
    is = head-is place p begins.0 (repeats_from (p + 2) xs) (sym begins.1 ∙ rw same refl) ∙ sym (add-zero p);
    here = record { even = refl; inside = omega arith; equal = ap (λ (d : Digest). found d) (is_same-true x y same) };
    before = λ r lt _. absurd (omega arith);
  }

  later : is_same x y ≡ false → FirstAt xs (p + 2) place → FirstAt (x ∷ y ∷ xs) p place
  later differ f = record {
    at = suc (suc f.at);
    is = omega (arith, f.is);
    here = unshifted x y xs f.at f.here;
    before = none;
  } where
    none : (r : ℕ) → r < suc (suc f.at) → IsRepeat (x ∷ y ∷ xs) r → ⊥
    none zero lt h = not-first x y xs differ h
    none (suc zero) lt h = absurd (omega (arith, h.even))
    none (suc (suc r)) lt h = f.before r (omega arith) (shifted x y xs r h)

  by_test : (HasFirst place (repeats_from (p + 2) xs) → FirstAt xs (p + 2) place) → (b : Bool) → is_same x y ≡ b → FirstAt (x ∷ y ∷ xs) p place
  by_test others true same = here same
  by_test others false differ = later differ (others (begins.0, rw differ at begins.1))

-- ---- what is repeated on all levels

flat-none : {X : Type 0} (g : ℕ → List X) (a n : ℕ) → ((l : ℕ) → a ≤ l → l < a + n → g l ≡ []) → flat_map g (range_with_len a n) ≡ []
flat-none g a zero none = refl
flat-none g a (suc n) none =
    let here : g a ≡ [] = none a (omega arith) (omega arith) in
    rw (flat_map-cons, here) (flat-none g (a + 1) n (λ l le lt. none l (omega arith) (omega arith)))

flat-first : {X : Type 0} (g : ℕ → List X) (a n k : ℕ) (x : X) → a ≤ k → k < a + n → ((l : ℕ) → a ≤ l → l < k → g l ≡ []) → HasFirst x (g k)
    → HasFirst x (flat_map g (range_with_len a n))
flat-first g a zero k x le lt none begins = absurd (omega arith)
flat-first {X = X} g a (suc n) k x le lt none begins = by_order (flat-first g (a + 1) n k x) (cases_lt a k) where
  rest : List X
  rest = flat_map g (range_with_len (a + 1) n)

  here : a ≡ k → HasFirst x (flat_map g (range_with_len a (suc n)))
  here same = (begins.0 ++ rest, rw (flat_map-cons, same, begins.1) refl)

  by_order : (a + 1 ≤ k → k < a + 1 + n → ((l : ℕ) → a + 1 ≤ l → l < k → g l ≡ []) → HasFirst x (g k) → HasFirst x rest) → (a < k) ⊎ (k ≤ a)
      → HasFirst x (flat_map g (range_with_len a (suc n)))
  by_order others (inr ge) = here (omega arith)
  by_order others (inl below) =
      let first : g a ≡ [] = none a (omega arith) below in
      let later = others (omega arith) (omega arith) (λ l from below. none l (omega arith) below) begins in
      (later.0, rw (flat_map-cons, first) later.1)

abbrev of_level : List Digest → ℕ → List (ℕ × ℕ)
of_level ids k = map (λ place. (k, place)) (repeats_from 0 (level ids k))

-- no level below repeats
abbrev pub Clear : List Digest → ℕ → Type 0
Clear ids k = (l : ℕ) → l < k → repeats_from 0 (level ids l) ≡ []

merkle-repeat : (ids : List Digest) (k place : ℕ) → k < length ids → Clear ids k → HasFirst place (repeats_from 0 (level ids k))
    → merkle_of ids ≡ Repeated k place
merkle-repeat ids k place lt clear begins =
    let here : HasFirst (k, place) (of_level ids k) = (map (λ p. (k, p)) begins.0, rw begins.1 refl) in
    let first : HasFirst (k, place) (repeats ids) =
    flat-first (of_level ids) 0 (length ids) k (k, place) (omega arith) (omega arith) (λ l le below. rw (clear l below) refl) here in
    rw first.1 refl

root-of : (ids : List Digest) (k : ℕ) (root : Digest) → k ≤ length ids → Clear ids k → level ids k ≡ root ∷ [] → merkle_of ids ≡ Root root
unfolding repeats_from
root-of ids k root le clear top =
    let none : (l : ℕ) → 0 ≤ l → l < 0 + length ids → of_level ids l ≡ [] = λ l from below. rw (clear_or_root l (cases_lt l k)) refl in
    let nothing : repeats ids ≡ [] = flat-none (of_level ids) 0 (length ids) none in
    rw (nothing, root-later ids root k (length ids) le top) refl where
      clear_or_root : (l : ℕ) → (l < k) ⊎ (k ≤ l) → repeats_from 0 (level ids l) ≡ []
      clear_or_root l (inl below) = clear l below
      clear_or_root l (inr above) = rw (root-later ids root k l above top) refl

-- ---- climbing from level to level

-- Level k is reached, none below it repeats, and the hashes get fewer.
pub record Climbed (ids hashes : List Digest) (k : ℕ) : Type 0 where
  pub level_is : level ids k ≡ hashes
  pub clear : Clear ids k
  pub some : 0 < length hashes
  pub fewer : length hashes + k ≤ length ids
  pub low : k ≤ 32
  pub narrow : length hashes ≤ 2 ^ (32 - k)

pub climbed-start : (ids : List Digest) → 0 < length ids → length ids < 2 ^ 32 → Climbed ids ids 0
climbed-start ids some few = record {
  level_is = refl;
  clear = λ l lt. absurd (omega arith);
  some = some;
  fewer = omega arith;
  low = omega arith;
  narrow = omega arith;
}

-- where a level has more than one hash, there is room for one more
pub climbed-below : (ids hashes : List Digest) (k : ℕ) → 1 < length hashes → Climbed ids hashes k → k < 32
climbed-below ids hashes k lt c = by_order (cases_lt k 32) where
  by_order : (k < 32) ⊎ (32 ≤ k) → k < 32
  by_order (inl below) = below
  by_order (inr above) = let top : 32 - k ≡ 0 = omega arith in let one = rw top at c.narrow in absurd (omega (arith, one))

pub climbed-more : (ids hashes above : List Digest) (k : ℕ) → 1 < length hashes → repeats_from 0 hashes ≡ [] → above ≡ paired hashes
    → Climbed ids hashes k → Climbed ids above (k + 1)
climbed-more ids hashes above k lt none is c =
    let half = length-paired hashes in
    let len : length above ≡ length (paired hashes) = ap length is in
    let below = climbed-below ids hashes k lt c in
    let step : 32 - k ≡ suc (32 - (k + 1)) = omega arith in
    let wide : 2 ^ (32 - k) ≡ 2 ^ (32 - (k + 1)) * 2 = rw (step, pow-suc) refl in
    record {
      level_is = level-more ids k ∙ rw (c.level_is, is) (above-paired hashes lt);
      clear = λ l before. by_order l (cases_lt l k) before;
      some = omega (arith, half.0, len);
      fewer = omega (arith, half.1, len, c.fewer);
      low = omega arith;
      narrow = omega (arith, half.1, len, c.narrow, wide);
    } where
      by_order : (l : ℕ) → (l < k) ⊎ (k ≤ l) → l < k + 1 → repeats_from 0 (level ids l) ≡ []
      by_order l (inl below) before = c.clear l below
      by_order l (inr at) before = let same : l ≡ k = omega arith in rw (same, c.level_is) none

pub climbed-repeat : (ids hashes : List Digest) (k place : ℕ) → 1 < length hashes → HasFirst place (repeats_from 0 hashes) → Climbed ids hashes k
    → (merkle_of ids ≡ Repeated k place) × IsFirstRepeat ids k place
climbed-repeat ids hashes k place lt begins c =
    let at_level : HasFirst place (repeats_from 0 (level ids k)) = rw c.level_is begins in
    let first = first-repeat (level ids k) 0 place at_level in
    let at : first.at ≡ place = omega (arith, first.is) in (
      merkle-repeat ids k place (omega (arith, c.fewer)) c.clear at_level,
      record {
        here = subst (IsRepeat (level ids k)) at first.here;
        lower = λ l p below. no-repeat (level ids l) 0 (c.clear l below) p;
        before = λ p below. first.before p (omega (arith, at));
      },
    )

pub one-hash : (hashes : List Digest) (root : Digest) → 0 < length hashes → length hashes ≤ 1 → root ≡ get_or hashes 0 root → hashes ≡ root ∷ []
one-hash [] root some few is = absurd (omega arith)
one-hash (x ∷ []) root some few is = ap (λ (d : Digest). d ∷ []) (sym is)
one-hash (x ∷ y ∷ xs) root some few is = absurd (omega arith)

pub climbed-root : (ids hashes : List Digest) (k : ℕ) (root : Digest) → length hashes ≤ 1 → root ≡ get_or hashes 0 root → Climbed ids hashes k
    → (merkle_of ids ≡ Root root) × IsRoot ids root
climbed-root ids hashes k root few is c =
    let top : level ids k ≡ root ∷ [] = c.level_is ∙ one-hash hashes root c.some few is in (
      root-of ids k root (omega (arith, c.fewer)) c.clear top,
      record { top = (k, top); none = λ l p. none l p top (cases_lt l k) },
    ) where
      none : (l p : ℕ) → level ids k ≡ root ∷ [] → (l < k) ⊎ (k ≤ l) → IsRepeat (level ids l) p → ⊥
      none l p top (inl below) r = no-repeat (level ids l) 0 (c.clear l below) p r
      none l p top (inr above) r = let alone = rw (root-later ids root k l above top) at r.inside in absurd (omega (arith, alone))

-- one id is the root
pub one-id : (ids : List Digest) (d : Digest) → length ids ≡ 1 → (merkle_of ids ≡ Root (get_or ids 0 d)) × IsRoot ids (get_or ids 0 d)
one-id [] d one = absurd (omega (arith, one))
one-id (only ∷ ids) d one =
    climbed-root (only ∷ ids) (only ∷ ids) 0 only (omega (arith, one)) refl (climbed-start (only ∷ ids) (omega (arith, one)) (omega (arith, one)))
