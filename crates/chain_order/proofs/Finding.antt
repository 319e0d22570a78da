-- What is found in a list, and arrivals by their hashes.
use Rattle.std.proofs.Common.{◌≡◌, zero, suc, Bool, true, false, List, [], ◌∷◌, Option, Some, None, refl, sym, ap, ◌∙◌, subst, arith}
use Rattle.std.specs.Prelude.{find, bytes_eq, is_some, Contains}
use Rattle.std.specs.Cmp.{IsEquivalence}
use Rattle.std.specs.Cmp.Lexicographic.{same_text}
use Rattle.std.specs.List.{list_any}
use Rattle.std.proofs.lemmas.Bool.{true≢false}
use Rattle.std.proofs.lemmas.Cmp.{on_equiv, nat_list_eq_equiv}
use Rattle.std.proofs.lemmas.List.Elements.{All-contains, All-from_recursion, Contains-append_right}
use Rattle.std.proofs.lemmas.Map.Keys.{IsDistinct-head, IsDistinct-tail}
use Rattle.uo_digest.specs.declared.digest.Digest.{Digest}
use Rattle.uo_digest.proofs.DigestLaws.{digest_is}
use Rattle.chain_order.specs.Arrivals.{Arrival, has_hash, AreDifferent}

-- ---- any list

module _ {X : Type 0} (p : X → Bool) where
  pub is_some-find : (xs : List X) → is_some (find p xs) ≡ list_any p xs
  is_some-find [] = refl
  is_some-find (y ∷ ys) = by (p y) refl (is_some-find ys)
    where
      by : (b : Bool) → p y ≡ b → is_some (find p ys) ≡ list_any p ys → is_some (find p (y ∷ ys)) ≡ list_any p (y ∷ ys)
      by true t more = rw t refl
      by false t more = rw t more

  some_none : (r : Option X) → is_some r ≡ false → r ≡ None
  some_none None e = refl
  some_none (Some x) e = absurd (true≢false e)

  pub find_none : (xs : List X) → list_any p xs ≡ false → find p xs ≡ None
  find_none xs e = some_none (find p xs) (is_some-find xs ∙ e)

  pub none_any : (xs : List X) → find p xs ≡ None → list_any p xs ≡ false
  none_any xs e = sym (is_some-find xs) ∙ ap is_some e

  pub found_any : (xs : List X) (x : X) → find p xs ≡ Some x → list_any p xs ≡ true
  found_any xs x e = sym (is_some-find xs) ∙ ap is_some e

  -- what is found passes
  pub found_passes : (xs : List X) (x : X) → find p xs ≡ Some x → p x ≡ true
  found_passes [] x e = absurd cc
  found_passes (y ∷ ys) x e = by (p y) refl (found_passes ys x)
    where
      by : (b : Bool) → p y ≡ b → (find p ys ≡ Some x → p x ≡ true) → p x ≡ true
      by true t more = let g = rw t at e in let same : y ≡ x = cc in subst (λ z. p z ≡ true) same t
      by false t more = more (rw t at e)

  -- and is in the list
  pub found_in : (xs : List X) (x : X) → find p xs ≡ Some x → Contains xs x
  found_in [] x e = absurd cc
  found_in (y ∷ ys) x e = by (p y) refl (found_in ys x)
    where
      by : (b : Bool) → p y ≡ b → (find p ys ≡ Some x → Contains ys x) → Contains (y ∷ ys) x
      by true t more = let g = rw t at e in let same : y ≡ x = cc in (0, omega arith, same)
      by false t more = Contains-append_right (y ∷ []) ys x (more (rw t at e))

-- ---- hashes

pub hash_is : (d e : Digest) → bytes_eq d.0 e.0 ≡ true → d ≡ e
hash_is d e t = digest_is d e.0 (same_text _ _ (sym t))

pub hash_same : (d : Digest) → bytes_eq d.0 d.0 ≡ true
hash_same d = nat_list_eq_equiv.refl d.0

pub by_hash : IsEquivalence (λ (a b : Arrival). has_hash a.hash b)
by_hash = on_equiv (λ (a : Arrival). a.hash.0) nat_list_eq_equiv

-- one of a list of different ones is found by its hash
pub found_own : (arrivals : List Arrival) (a : Arrival) → AreDifferent arrivals → Contains arrivals a → find (has_hash a.hash) arrivals ≡ Some a
found_own [] a d (k, lt, e) = absurd (omega (arith, lt))
found_own (b ∷ arrivals) a d (zero, lt, e) =
    rw (ap (λ (x : Arrival). has_hash a.hash x) e ∙ hash_same a.hash) (ap (λ (x : Arrival). let y : Option Arrival = Some x in y) e)
found_own (b ∷ arrivals) a d (suc k, lt, e) =
    let there : Contains arrivals a = (k, omega (arith, lt), e) in
    let others = IsDistinct-head (λ (x y : Arrival). has_hash x.hash y) b arrivals d in
    let apart = All-contains (λ (x : Arrival). has_hash b.hash x ≡ false) arrivals a
    (All-from_recursion (λ (x : Arrival). has_hash b.hash x ≡ false) arrivals others) there in
    rw (by_hash.symm a b ∙ apart) (found_own arrivals a (IsDistinct-tail (λ (x y : Arrival). has_hash x.hash y) b arrivals d) there)
