-- One more that is met on the way back.
use Rattle.std.proofs.Common.{◌≡◌, ℕ, ◌+◌, ◌<◌, ◌≤◌, Bool, true, false, cond, List, [], ◌∷◌, ◌++◌, Some, None, length, get_or, set, map, reverse}
use Rattle.std.proofs.Common.{refl, sym, ap, ap₂, ◌∙◌, subst, arith, replicate, ◌⊎◌, inl, inr, ◌||◌}
use Rattle.std.specs.Prelude.{find, bytes_eq, slice_get, count_by, not, is_some}
use Rattle.std.proofs.lemmas.Bool.{cases_eq, cases_lt}
use Rattle.std.proofs.lemmas.List.{get_or-set_same, get_or-set_other, length-set, length-replicate, get_or-replicate, reverse-append, map_push}
use Rattle.std.proofs.lemmas.List.Folds.{sum_by-replicate}
use Rattle.std.proofs.lemmas.List.Sums.{sum_by-set}
use Rattle.std.proofs.lemmas.Map.Keys.{apart_from_distinct}
use Rattle.std.proofs.lemmas.Option.{get_or_from_slice_get, slice_get_within}
use Rattle.uo_digest.specs.declared.digest.Digest.{Digest}
use Rattle.chain_order.specs.Arrivals.{Arrival, has_hash, has_arrived, AreDifferent}
use Rattle.chain_order.specs.Numbers.{number_of}
use Rattle.chain_order.specs.Steps.{HasMet, MeetsOne}
use Rattle.chain_order.proofs.Finding.{by_hash, hash_is, hash_same, find_none}
use Rattle.chain_order.proofs.Numbering.{IsThere, there, is_some-number_of}

-- ---- nothing was met

pub none_met : (arrivals : List Arrival) → HasMet arrivals (replicate (length arrivals) false) [] []
none_met arrivals = record {
  numbered = refl;
  len = length-replicate (length arrivals) false;
  marked = λ k a got. get_or-replicate (length arrivals) k false false (slice_get_within arrivals k a got);
}

pub none_counted : (n : ℕ) → count_by not (replicate n false) ≡ n
none_counted n = sum_by-replicate (λ b. cond (not b) 1 0) n false ∙ omega arith

-- ---- one more

-- its mark tells whether it was met before
pub mark_tells : (arrivals : List Arrival) (marks : List Bool) (numbers : List ℕ) (met : List Arrival) → HasMet arrivals marks numbers met
    → (hash : Digest) (k : ℕ) → number_of arrivals hash.0 ≡ Some k → get_or marks k false ≡ has_arrived met hash
mark_tells arrivals marks numbers met has hash k number =
    let is = there arrivals hash.0 k number in
    has.marked k is.one is.got ∙ ap (λ h. has_arrived met h) (sym (hash_is hash is.one.hash is.has))

module _ (arrivals : List Arrival) (different : AreDifferent arrivals) (marks : List Bool) (numbers : List ℕ) (met : List Arrival)
    (has : HasMet arrivals marks numbers met)
    (hash : Digest) (k : ℕ) (number : number_of arrivals hash.0 ≡ Some k) where
  abbrev is : IsThere arrivals hash.0 k
  is = there arrivals hash.0 k number

  abbrev pub marks' : List Bool
  marks' = set marks k true

  within : k < length marks
  within = omega (arith, is.within, has.len)

  -- the mark of another stays
  others : (j : ℕ) (a : Arrival) → slice_get arrivals j ≡ Some a → (j ≡ k → ⊥) → get_or marks' j false ≡ has_arrived (is.one ∷ met) a.hash
  others j a got apart = get_or-set_other marks k j true false apart ∙ has.marked j a got ∙ sym (ap (λ b. b || has_arrived met a.hash) differs)
    where
      by_order : (j < k) ⊎ (k ≤ j) → bytes_eq a.hash.0 is.one.hash.0 ≡ false
      by_order (inl lt) =
          subst (λ (x : Arrival). bytes_eq x.hash.0 is.one.hash.0 ≡ false) (get_or_from_slice_get arrivals j a a got)
          (subst (λ (x : Arrival). bytes_eq (get_or arrivals j a).hash.0 x.hash.0 ≡ false) (get_or_from_slice_get arrivals k is.one a is.got)
          (apart_from_distinct (λ (x y : Arrival). has_hash x.hash y) arrivals j k a different lt is.within))
      by_order (inr gt) =
          let turned =
          subst (λ (x : Arrival). bytes_eq x.hash.0 a.hash.0 ≡ false) (get_or_from_slice_get arrivals k is.one a is.got)
          (subst (λ (x : Arrival). bytes_eq (get_or arrivals k a).hash.0 x.hash.0 ≡ false) (get_or_from_slice_get arrivals j a a got)
          (apart_from_distinct (λ (x y : Arrival). has_hash x.hash y) arrivals k j a different (omega (arith, gt, apart))
          (slice_get_within arrivals j a got))) in
          by_hash.symm a is.one ∙ turned

      differs : bytes_eq a.hash.0 is.one.hash.0 ≡ false
      differs = by_order (cases_lt j k)

  marked : (j : ℕ) (a : Arrival) → slice_get arrivals j ≡ Some a → get_or marks' j false ≡ has_arrived (is.one ∷ met) a.hash
  marked j a got = by (cases_eq j k)
    where
      by : (j ≡ k) ⊎ (j ≡ k → ⊥) → get_or marks' j false ≡ has_arrived (is.one ∷ met) a.hash
      by (inl same) =
          let one_is : Some is.one ≡ Some a = sym is.got ∙ ap (slice_get arrivals) (sym same) ∙ got in
          let a_is : is.one ≡ a = cc in
          ap (λ i. get_or marks' i false) same ∙ get_or-set_same marks k true false within
          ∙ sym (subst (λ (x : Arrival). has_arrived (is.one ∷ met) x.hash ≡ true) a_is
          (ap (λ b. b || has_arrived met is.one.hash) (hash_same is.one.hash)))
      by (inr apart) = others j a got apart

  pub meets_one : get_or marks k false ≡ false → MeetsOne arrivals hash marks marks' (numbers ++ k ∷ []) met is.one.prev
  meets_one fresh = record {
    one = is.one;
    found = is.found;
    first = sym (mark_tells arrivals marks numbers met has hash k number) ∙ fresh;
    prev_is = refl;
    now = record {
      numbered = map_push (slice_get arrivals) numbers k ∙ ap₂ (λ xs x. xs ++ x ∷ []) has.numbered is.got ∙ sym (map_push Some (reverse met) is.one)
          ∙ ap (λ xs. map Some xs) (sym (reverse-append (is.one ∷ []) met));
      len = length-set marks k true ∙ has.len;
      marked = marked;
    };
    fewer = fewer;
  }
    where
      fewer : count_by not marks' + 1 ≡ count_by not marks
      fewer =
          let e = sum_by-set (λ b. cond (not b) 1 0) marks k true false within in
          let one : ◌≡◌ {A = ℕ} (cond (not (get_or marks k false)) 1 0) 1 = ap (λ b. let n : ℕ = cond (not b) 1 0 in n) fresh in
          omega (arith, e, one)

  -- the same of what the calls left
  pub meets_one_there : get_or marks k false ≡ false → (numbers' : List ℕ) (x : Arrival) (prev : Digest) → numbers' ≡ numbers ++ k ∷ []
      → x ≡ get_or arrivals k x → prev ≡ x.prev
      → MeetsOne arrivals hash marks marks' numbers' met prev
  meets_one_there fresh numbers' x prev grew x_is prev_is =
      let one_is : x ≡ is.one = x_is ∙ get_or_from_slice_get arrivals k is.one x is.got in
      subst (λ ns. MeetsOne arrivals hash marks marks' ns met prev) (sym grew)
      (subst (λ p. MeetsOne arrivals hash marks marks' (numbers ++ k ∷ []) met p) (sym (prev_is ∙ ap (λ (y : Arrival). y.prev) one_is))
      (meets_one fresh))

-- ---- none

pub met_none : (arrivals : List Arrival) (hash : Digest) → number_of arrivals hash.0 ≡ None → find (has_hash hash) arrivals ≡ None
met_none arrivals hash e = find_none (has_hash hash) arrivals (sym (is_some-number_of arrivals hash.0) ∙ ap is_some e)

pub there_found : (arrivals : List Arrival) (hash : Digest) (k : ℕ) → number_of arrivals hash.0 ≡ Some k
    → (one : Arrival) × (find (has_hash hash) arrivals ≡ Some one)
there_found arrivals hash k number = let is = there arrivals hash.0 k number in (is.one, is.found)
