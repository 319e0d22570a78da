-- The numbers of arrivals, and the map that tells them.
use Rattle.std.proofs.Common.{◌≡◌, ℕ, suc, ◌<◌, Bool, true, false, cond, List, [], ◌∷◌, ◌++◌, Option, Some, None, length, refl, sym, ap, ◌∙◌, subst}
use Rattle.std.proofs.Common.{arith, if◌then◌else◌, option_map}
use Rattle.std.specs.Prelude.{find, bytes_eq, is_some, slice_get, IfSome}
use Rattle.std.specs.BTreeMap.{BTreeMap, get, is_at, Updates, IsEmpty}
use Rattle.std.specs.Map.{lookup}
use Rattle.std.specs.Cmp.Lexicographic.{slice_cmp, same_text}
use Rattle.std.specs.List.{list_any, IsDistinct}
use Rattle.std.specs.Option.{option_or}
use Rattle.std.specs.Ordering.{nat_cmp}
use Rattle.std.proofs.lemmas.Bool.{true≢false}
use Rattle.std.proofs.lemmas.Map.Keys.{IsDistinct-push}
use Rattle.std.proofs.lemmas.Map.Text.{is_eq-slice_cmp}
use Rattle.uo_digest.specs.declared.digest.Digest.{Digest}
use Rattle.chain_order.specs.Arrivals.{Arrival, has_arrived}
use Rattle.chain_order.specs.Numbers.{number_of, AreNumbered}
use Rattle.chain_order.proofs.Finding.{by_hash}

-- ---- the number of a hash

-- what has a number is there
pub record IsThere (arrivals : List Arrival) (hash : List ℕ) (k : ℕ) : Type 0 where
  pub one : Arrival
  pub got : slice_get arrivals k ≡ Some one
  pub has : bytes_eq hash one.hash.0 ≡ true
  pub found : find (λ (a : Arrival). bytes_eq hash a.hash.0) arrivals ≡ Some one
  pub within : k < length arrivals

pub there : (arrivals : List Arrival) (hash : List ℕ) (k : ℕ) → number_of arrivals hash ≡ Some k → IsThere arrivals hash k
there [] hash k e = absurd cc
there (a ∷ arrivals) hash k e = by (bytes_eq hash a.hash.0) refl (there arrivals hash)
  where
    first : bytes_eq hash a.hash.0 ≡ true → 0 ≡ k → IsThere (a ∷ arrivals) hash k
    first t zero_is = subst (IsThere (a ∷ arrivals) hash) zero_is record { one = a; got = refl; has = t; found = rw t refl; within = omega arith }

    other : bytes_eq hash a.hash.0 ≡ false → (r : Option ℕ) → number_of arrivals hash ≡ r → option_map suc r ≡ Some k
        → ((k : ℕ) → number_of arrivals hash ≡ Some k → IsThere arrivals hash k) → IsThere (a ∷ arrivals) hash k
    other t None n g more = absurd cc
    other t (Some j) n g more =
        let w = more j n in
        let k_is : suc j ≡ k = cc in
        subst (IsThere (a ∷ arrivals) hash) k_is record {
          one = w.one;
          got = w.got;
          has = w.has;
          found = rw t w.found;
          within =
              omega (arith, w.within);
        }

    by : (b : Bool) → bytes_eq hash a.hash.0 ≡ b → ((k : ℕ) → number_of arrivals hash ≡ Some k → IsThere arrivals hash k)
        → IsThere (a ∷ arrivals) hash k
    by true t more = let g = rw t at e in first t (cc)
    by false t more = other t (number_of arrivals hash) refl (rw t at e) more

pub is_some-number_of : (arrivals : List Arrival) (hash : List ℕ)
    → is_some (number_of arrivals hash) ≡ list_any (λ (a : Arrival). bytes_eq hash a.hash.0) arrivals
is_some-number_of [] hash = refl
is_some-number_of (a ∷ arrivals) hash = by (bytes_eq hash a.hash.0) refl (is_some-number_of arrivals hash)
  where
    mapped : (r : Option ℕ) → is_some (option_map suc r) ≡ is_some r
    mapped None = refl
    mapped (Some j) = refl

    by : (b : Bool) → bytes_eq hash a.hash.0 ≡ b → is_some (number_of arrivals hash) ≡ list_any (λ (x : Arrival). bytes_eq hash x.hash.0) arrivals
        → is_some (number_of (a ∷ arrivals) hash) ≡ list_any (λ (x : Arrival). bytes_eq hash x.hash.0) (a ∷ arrivals)
    by true t more = rw t refl
    by false t more = rw t (mapped (number_of arrivals hash) ∙ more)

-- ---- one more

pub number_of-push : (arrivals : List Arrival) (a : Arrival) (hash : List ℕ)
    → number_of (arrivals ++ a ∷ []) hash ≡ option_or (number_of arrivals hash) (if bytes_eq hash a.hash.0 then Some (length arrivals) else None)
number_of-push [] a hash = refl
number_of-push (b ∷ arrivals) a hash = by (bytes_eq hash b.hash.0) refl (number_of-push arrivals a hash)
  where
    mapped : (r : Option ℕ) (c : Bool) → option_map suc (option_or r (if c then Some (length arrivals) else None))
        ≡ option_or (option_map suc r) (if c then Some (length (b ∷ arrivals)) else None)
    mapped None true = refl
    mapped None false = refl
    mapped (Some j) c = refl

    by : (t : Bool) → bytes_eq hash b.hash.0 ≡ t
        → number_of (arrivals ++ a ∷ []) hash ≡ option_or (number_of arrivals hash) (if bytes_eq hash a.hash.0 then Some (length arrivals) else None)
        → number_of (b ∷ arrivals ++ a ∷ []) hash
        ≡ option_or (number_of (b ∷ arrivals) hash) (if bytes_eq hash a.hash.0 then Some (length (b ∷ arrivals)) else None)
    by true t more = rw t refl
    by false t more = rw t (ap (option_map suc) more ∙ mapped (number_of arrivals hash) (bytes_eq hash a.hash.0))

module _ (arrivals : List Arrival) (a : Arrival) (old new : BTreeMap (List ℕ) ℕ) (old_is : AreNumbered arrivals old)
    (first : has_arrived arrivals a.hash ≡ false)
    (put : Updates (slice_cmp nat_cmp) old new a.hash.0 (Some (length arrivals))) where
  no_number : (hash : List ℕ) → bytes_eq a.hash.0 hash ≡ true → number_of arrivals hash ≡ None
  no_number hash t = by (number_of arrivals hash) (is_some-number_of arrivals hash
      ∙ subst (λ h. list_any (λ (x : Arrival). bytes_eq h x.hash.0) arrivals ≡ false) (same_text _ _ (sym t)) first)
    where
      by : (r : Option ℕ) → is_some r ≡ false → r ≡ None
      by None e = refl
      by (Some j) e = absurd (true≢false e)

  tells : (hash : List ℕ) → get (slice_cmp nat_cmp) new hash ≡ number_of (arrivals ++ a ∷ []) hash
  tells hash = put.0 hash ∙ ap (λ b. cond b (Some (length arrivals)) (get (slice_cmp nat_cmp) old hash)) (is_eq-slice_cmp a.hash.0 hash)
      ∙ by (bytes_eq a.hash.0 hash) refl
    where
      turned : bytes_eq hash a.hash.0 ≡ bytes_eq a.hash.0 hash
      turned = by_hash.symm (record { hash = record { 0 = hash }; prev = a.prev; body = a.body }) a

      by : (b : Bool) → bytes_eq a.hash.0 hash ≡ b → cond b (Some (length arrivals)) (get (slice_cmp nat_cmp) old hash)
          ≡ number_of (arrivals ++ a ∷ []) hash
      by true t = sym (number_of-push arrivals a hash ∙ ap (λ r. option_or r (if bytes_eq hash a.hash.0 then Some (length arrivals) else None))
          (no_number hash t) ∙ ap (λ b. if b then Some (length arrivals) else None) (turned ∙ t))
      by false t = old_is.told hash ∙ sym (number_of-push arrivals a hash
          ∙ ap (λ b. option_or (number_of arrivals hash) (if b then Some (length arrivals) else None)) (turned ∙ t)
          ∙ or_none (number_of arrivals hash))
        where
          or_none : (r : Option ℕ) → option_or r None ≡ r
          or_none None = refl
          or_none (Some j) = refl

  pub numbered_more : AreNumbered (arrivals ++ a ∷ []) new
  numbered_more = record { different = IsDistinct-push by_hash arrivals a old_is.different first; told = tells }

-- the same of what the calls left
pub numbered_after : (arrivals : List Arrival) (a : Arrival) (old new : BTreeMap (List ℕ) ℕ) (n : ℕ) (items : List Arrival) → AreNumbered arrivals old
    → has_arrived arrivals a.hash ≡ false
    → n ≡ length arrivals → items ≡ arrivals ++ a ∷ [] → Updates (slice_cmp nat_cmp) old new a.hash.0 (Some n) → AreNumbered items new
numbered_after arrivals a old new n items old_is first len grew put =
    subst (λ xs. AreNumbered xs new) (sym grew)
    (numbered_more arrivals a old new old_is first (subst (λ k. Updates (slice_cmp nat_cmp) old new a.hash.0 (Some k)) len put))

-- ---- what the map tells

pub number_within : (arrivals : List Arrival) (hash : List ℕ) (r : Option ℕ) → r ≡ number_of arrivals hash → IfSome r (λ k. k < length arrivals)
number_within arrivals hash None e = tt
number_within arrivals hash (Some k) e = (there arrivals hash k (sym e)).within

pub arrived_is : (arrivals : List Arrival) (numbers : BTreeMap (List ℕ) ℕ) → AreNumbered arrivals numbers → (hash : Digest) (r : Bool)
    → r ≡ is_some (get (slice_cmp nat_cmp) numbers hash.0) → r ≡ has_arrived arrivals hash
arrived_is arrivals numbers are hash r e = e ∙ ap is_some (are.told hash.0) ∙ is_some-number_of arrivals hash.0

-- nothing has arrived
pub none_numbered : (arrivals : List Arrival) (numbers : BTreeMap (List ℕ) ℕ) → arrivals ≡ [] → IsEmpty numbers → AreNumbered arrivals numbers
unfolding IsDistinct
none_numbered arrivals numbers none empty =
    subst (λ xs. AreNumbered xs numbers) (sym none)
    record { different = tt; told = λ hash. ap (λ es. lookup (is_at (slice_cmp nat_cmp hash)) es) empty }
