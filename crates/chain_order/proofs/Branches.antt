-- Branches to a tip, and what the way back finds of them.
use Rattle.std.proofs.Common.{◌≡◌, ◌≢◌, ℕ, zero, suc, ◌+◌, ◌-◌, ◌≤◌, Bool, true, false, List, [], ◌∷◌, ◌++◌, Option, Some, None, Result, Ok, Err}
use Rattle.std.proofs.Common.{length, refl, sym, ap, ap₂, ◌∙◌, subst, arith, ◌||◌}
use Rattle.std.specs.Prelude.{find, bytes_eq, Contains, IfOk, IfErr}
use Rattle.std.specs.Result.{result_map_both}
use Rattle.std.specs.List.{list_any, AllByRecursion, IsDistinct}
use Rattle.std.proofs.lemmas.Bool.{true≢false, false≢true}
use Rattle.std.proofs.lemmas.List.Elements.{All-cons, All-contains, All-from_recursion, recursion_from_All, Contains-push}
use Rattle.std.proofs.lemmas.Map.Keys.{IsDistinct-head, IsDistinct-tail, IsDistinct-cons}
use Rattle.std.proofs.lemmas.Map.Made.{length-le_from_is_member}
use Rattle.uo_digest.specs.declared.digest.Digest.{Digest}
use Rattle.chain_order.specs.declared.fault.PathFault.{PathFault}
use Rattle.chain_order.specs.declared.fault.PathFault.TheVariants.{NoTip, Missing, Loop, NoMemory}
use Rattle.chain_order.specs.Arrivals.{Arrival, has_hash, has_arrived, AreDifferent}
use Rattle.chain_order.specs.Laws.{IsToldOf, PathIsTold, OnePath}
use Rattle.chain_order.specs.Path.{no_hash, AreLinked, EndsWith, IsBranch, IsPath, IsCause}
use Rattle.chain_order.specs.Walk.{is_no_hash, way_back, path_of, AreNumbers, Answers}
use Rattle.chain_order.proofs.Finding.{by_hash, hash_is, hash_same, find_none, found_any, found_in, found_passes, found_own, none_any}
use Rattle.chain_order.proofs.Walking.{missing, again, begins, goes_on, no_tip, from_tip}

-- ---- small things

-- an arrival of a hash that is another's
same_test : (d e : Digest) → bytes_eq d.0 e.0 ≡ true → (arrivals : List Arrival) → has_arrived arrivals e ≡ has_arrived arrivals d
same_test d e t arrivals = ap (λ h. has_arrived arrivals h) (sym (hash_is d e t))

-- none of a list passes
pub none_passes : {X : Type 0} (p : X → Bool) (xs : List X) → list_any p xs ≡ false → AllByRecursion (λ x. p x ≡ false) xs
none_passes p [] e = tt
none_passes p (x ∷ xs) e = by (none_passes p xs) (p x) refl
  where
    by : (list_any p xs ≡ false → AllByRecursion (λ y. p y ≡ false) xs) → (b : Bool) → p x ≡ b → AllByRecursion (λ y. p y ≡ false) (x ∷ xs)
    by more true t = absurd (true≢false (sym (ap (λ b. b || list_any p xs) t) ∙ e))
    by more false t = (t, more (sym (ap (λ b. b || list_any p xs) t) ∙ e))

pub passes_none : {X : Type 0} (p : X → Bool) (xs : List X) → AllByRecursion (λ x. p x ≡ false) xs → list_any p xs ≡ false
passes_none p [] a = refl
passes_none p (x ∷ xs) a = ap (λ b. b || list_any p xs) a.0 ∙ passes_none p xs a.1

-- the hash of the last, or this one where there is none
abbrev end_of : Digest → List Arrival → Digest
end_of hash [] = hash
end_of hash (a ∷ later) = end_of a.hash later

ends_with : (a : Arrival) (later : List Arrival) → EndsWith (a ∷ later) (end_of a.hash later)
ends_with a [] = record { front = []; last = a; split = refl; is = refl }
ends_with a (b ∷ later) = let e = ends_with b later in record { front = a ∷ e.front; last = e.last; split = ap (λ l. a ∷ l) e.split; is = e.is }

end_is : (hash : Digest) (front : List Arrival) (last : Arrival) → end_of hash (front ++ last ∷ []) ≡ last.hash
end_is hash [] last = refl
end_is hash (a ∷ front) last = end_is a.hash front last

is_none_hash : (hash : Digest) → hash ≡ no_hash → is_no_hash hash ≡ true
is_none_hash hash e = subst (λ h. is_no_hash h ≡ true) (sym e) (hash_same no_hash)

is_some_hash : (hash : Digest) → hash ≢ no_hash → is_no_hash hash ≡ false
is_some_hash hash n = by (is_no_hash hash) refl
  where
    by : (b : Bool) → is_no_hash hash ≡ b → is_no_hash hash ≡ false
    by true t = absurd (n (hash_is hash no_hash t))
    by false t = t

some_hash : (hash : Digest) → is_no_hash hash ≡ false → hash ≢ no_hash
some_hash hash t e = true≢false (sym (is_none_hash hash e) ∙ t)

-- ---- what was met on the way from a tip, before a hash

record IsMet (arrivals : List Arrival) (tip hash : Digest) (met : List Arrival) : Type 0 where
  found : AllByRecursion (λ (a : Arrival). find (has_hash a.hash) arrivals ≡ Some a) met
  linked : AreLinked hash met
  going : AllByRecursion (λ (a : Arrival). a.prev ≢ no_hash) met
  once : AreDifferent met
  ends : end_of hash met ≡ tip

member : (arrivals met : List Arrival) → AllByRecursion (λ (a : Arrival). find (has_hash a.hash) arrivals ≡ Some a) met → (hash : Digest)
    → has_arrived met hash ≡ true → has_arrived arrivals hash ≡ true
member arrivals [] f hash e = absurd (false≢true e)
member arrivals (a ∷ met) f hash e = by (member arrivals met f.1 hash) (has_hash hash a) refl
  where
    by : (has_arrived met hash ≡ true → has_arrived arrivals hash ≡ true) → (b : Bool) → has_hash hash a ≡ b → has_arrived arrivals hash ≡ true
    by more true t = sym (same_test hash a.hash t arrivals) ∙ found_any (has_hash a.hash) arrivals a f.0
    by more false t = more (sym (ap (λ b. b || has_arrived met hash) t) ∙ e)

few_met : (arrivals met : List Arrival) (tip hash : Digest) → IsMet arrivals tip hash met → length met ≤ length arrivals
few_met arrivals met tip hash m = length-le_from_is_member by_hash met arrivals m.once (λ q e. member arrivals met m.found q.hash e)

-- one more is met
met_more : (arrivals : List Arrival) (tip hash : Digest) (met : List Arrival) (a : Arrival) → IsMet arrivals tip hash met
    → find (has_hash hash) arrivals ≡ Some a → has_arrived met hash ≡ false → a.prev ≢ no_hash
    → IsMet arrivals tip a.prev (a ∷ met)
met_more arrivals tip hash met a m e first goes =
    let same : hash ≡ a.hash = hash_is hash a.hash (found_passes (has_hash hash) arrivals a e) in
    record {
      found = (subst (λ h. find (has_hash h) arrivals ≡ Some a) same e, m.found);
      linked = (refl, subst (λ h. AreLinked h met) same m.linked);
      going = (goes, m.going);
      once = IsDistinct-cons (λ (x y : Arrival). has_hash x.hash y) a met
          (none_passes (has_hash a.hash) met (subst (λ h. has_arrived met h ≡ false) same first)) m.once;
      ends = subst (λ h. end_of h met ≡ tip) same m.ends;
    }

contained : (arrivals met : List Arrival) → AllByRecursion (λ (a : Arrival). find (has_hash a.hash) arrivals ≡ Some a) met
    → AllByRecursion (Contains arrivals) met
contained arrivals [] f = tt
contained arrivals (a ∷ met) f = (found_in (has_hash a.hash) arrivals a f.0, contained arrivals met f.1)

-- it is a branch, with one more in front of it
branch_more : (arrivals : List Arrival) (tip hash : Digest) (met : List Arrival) (a : Arrival) → IsMet arrivals tip hash met
    → find (has_hash hash) arrivals ≡ Some a → has_arrived met hash ≡ false
    → IsBranch arrivals a.prev tip (a ∷ met)
branch_more arrivals tip hash met a m e first =
    let same : hash ≡ a.hash = hash_is hash a.hash (found_passes (has_hash hash) arrivals a e) in
    record {
      arrived = All-cons (Contains arrivals) a met (found_in (has_hash hash) arrivals a e)
          (All-from_recursion (Contains arrivals) met (contained arrivals met m.found));
      linked = (refl, subst (λ h. AreLinked h met) same m.linked);
      later = All-from_recursion (λ (x : Arrival). x.prev ≢ no_hash) met m.going;
      once = IsDistinct-cons (λ (x y : Arrival). has_hash x.hash y) a met
          (none_passes (has_hash a.hash) met (subst (λ h. has_arrived met h ≡ false) same first)) m.once;
      ends = subst (λ h. EndsWith (a ∷ met) h) (subst (λ h. end_of h met ≡ tip) same m.ends) (ends_with a met);
    }

-- what was met is a branch
branch_met : (arrivals : List Arrival) (tip hash : Digest) (a : Arrival) (met : List Arrival) → IsMet arrivals tip hash (a ∷ met)
    → IsBranch arrivals hash tip (a ∷ met)
branch_met arrivals tip hash a met m = record {
  arrived = All-from_recursion (Contains arrivals) (a ∷ met) (contained arrivals (a ∷ met) m.found);
  linked = m.linked;
  later = All-from_recursion (λ (x : Arrival). x.prev ≢ no_hash) met m.going.1;
  once = m.once;
  ends = subst (λ h. EndsWith (a ∷ met) h) m.ends (ends_with a met);
}

-- ---- a branch is met

record IsLed (arrivals : List Arrival) (hash tip : Digest) (branch : List Arrival) : Type 0 where
  first : Arrival
  later : List Arrival
  split : branch ≡ first ∷ later
  prev : first.prev ≡ hash
  found : find (has_hash first.hash) arrivals ≡ Some first
  new : has_arrived later first.hash ≡ false
  met : IsMet arrivals tip first.hash later

all_found : (arrivals branch : List Arrival) → AreDifferent arrivals → AllByRecursion (Contains arrivals) branch
    → AllByRecursion (λ (a : Arrival). find (has_hash a.hash) arrivals ≡ Some a) branch
all_found arrivals [] d c = tt
all_found arrivals (a ∷ branch) d c = (found_own arrivals a d c.0, all_found arrivals branch d c.1)

led : (arrivals : List Arrival) (hash tip : Digest) (branch : List Arrival) → AreDifferent arrivals → IsBranch arrivals hash tip branch
    → IsLed arrivals hash tip branch
led arrivals hash tip [] d b = absurd (no_end b.ends.front b.ends.last b.ends.split)
  where
    no_end : (front : List Arrival) (last : Arrival) → [] ≡ front ++ last ∷ [] → ⊥
    no_end [] last e = absurd cc
    no_end (a ∷ front) last e = absurd cc
led arrivals hash tip (a ∷ later) d b =
    let all = all_found arrivals (a ∷ later) d (recursion_from_All (Contains arrivals) (a ∷ later) b.arrived) in
    record {
      first = a;
      later = later;
      split = refl;
      prev = b.linked.0;
      found = all.0;
      new = passes_none (has_hash a.hash) later (IsDistinct-head (λ (x y : Arrival). has_hash x.hash y) a later b.once);
      met = record {
        found = all.1;
        linked = b.linked.1;
        going = recursion_from_All (λ (x : Arrival). x.prev ≢ no_hash) later b.later;
        once = IsDistinct-tail (λ (x y : Arrival). has_hash x.hash y) a later b.once;
        ends = ap (λ l. end_of hash l) b.ends.split ∙ end_is hash b.ends.front b.ends.last ∙ b.ends.is;
      };
    }

-- a branch is no longer than the list of all arrivals
pub few_branch : (arrivals : List Arrival) (hash tip : Digest) (branch : List Arrival) → AreDifferent arrivals → IsBranch arrivals hash tip branch
    → length branch ≤ length arrivals
few_branch arrivals hash tip branch d b =
    length-le_from_is_member by_hash branch arrivals b.once
    (λ q e. member arrivals branch (all_found arrivals branch d (recursion_from_All (Contains arrivals) branch b.arrived)) q.hash e)

-- the way back comes to where a branch begins
comes : (arrivals : List Arrival) (tip hash : Digest) (n : ℕ) (met : List Arrival) → IsMet arrivals tip hash met
    → way_back arrivals (n + length met) [] tip ≡ way_back arrivals n met hash
comes arrivals tip hash n [] m = ap₂ (λ k h. way_back arrivals k [] h) (omega arith) (sym m.ends)
comes arrivals tip hash n (a ∷ met) m =
    let more : n + length (a ∷ met) ≡ suc n + length met = omega arith in
    let inner : IsMet arrivals tip a.hash met = record {
      found = m.found.1;
      linked = m.linked.1;
      going = m.going.1;
      once = IsDistinct-tail (λ (x y : Arrival). has_hash x.hash y) a met m.once;
      ends = m.ends;
    } in
    let new = passes_none (has_hash a.hash) met (IsDistinct-head (λ (x y : Arrival). has_hash x.hash y) a met m.once) in
    ap (λ k. way_back arrivals k [] tip) more ∙ comes arrivals tip a.hash (suc n) met inner
    ∙ goes_on arrivals n met a.hash a m.found.0 new (is_some_hash a.prev m.going.0) ∙ ap (λ h. way_back arrivals n (a ∷ met) h) m.linked.0

-- the tip of a branch has arrived
tip_there : (arrivals : List Arrival) (hash tip : Digest) (branch : List Arrival) → AreDifferent arrivals → IsBranch arrivals hash tip branch
    → has_arrived arrivals tip ≡ true
tip_there arrivals hash tip branch d b =
    let last_in = All-contains (Contains arrivals) branch b.ends.last b.arrived
    (subst (λ l. Contains l b.ends.last) (sym b.ends.split) (Contains-push b.ends.front b.ends.last)) in
    subst (λ h. has_arrived arrivals h ≡ true) b.ends.is
    (found_any (has_hash b.ends.last.hash) arrivals b.ends.last (found_own arrivals b.ends.last d last_in))

-- and so does the path's function
module _ (arrivals : List Arrival) (tip : Digest) (d : AreDifferent arrivals) where
  module _ (hash : Digest) (branch : List Arrival) (b : IsBranch arrivals hash tip branch) where
    abbrev l : IsLed arrivals hash tip branch
    l = led arrivals hash tip branch d b

    abbrev rest : ℕ
    rest = length arrivals - length l.later

    enough : length l.later ≤ length arrivals
    enough = few_met arrivals l.later tip l.first.hash l.met

    to_first : path_of arrivals tip ≡ way_back arrivals (suc rest) l.later l.first.hash
    to_first =
        let e : suc (length arrivals) ≡ suc rest + length l.later = omega (arith, enough) in
        from_tip arrivals tip (tip_there arrivals hash tip branch d b) ∙ ap (λ k. way_back arrivals k [] tip) e
        ∙ comes arrivals tip l.first.hash (suc rest) l.later l.met

    path_here : hash ≡ no_hash → path_of arrivals tip ≡ Ok branch
    path_here e =
        to_first ∙ begins arrivals rest l.later l.first.hash l.first l.found l.new (is_none_hash l.first.prev (l.prev ∙ e))
        ∙ ap (λ xs. let r : Result (List Arrival) PathFault = Ok xs in r) (sym l.split)

    -- the branch as what was met before its hash
    module _ (goes : hash ≢ no_hash) where
      whole : IsMet arrivals tip hash branch
      whole =
          let first_goes : l.first.prev ≢ no_hash = λ e. goes (sym l.prev ∙ e) in
          subst (λ xs. IsMet arrivals tip hash xs) (sym l.split)
          (subst (λ h. IsMet arrivals tip h (l.first ∷ l.later)) l.prev
          (met_more arrivals tip l.first.hash l.later l.first l.met l.found l.new first_goes))

      left : ℕ
      left = length arrivals - length branch

      to_hash : path_of arrivals tip ≡ way_back arrivals (suc (length arrivals - length branch)) branch hash
      to_hash =
          let few = few_met arrivals branch tip hash whole in
          let e : suc (length arrivals) ≡ suc (length arrivals - length branch) + length branch = omega (arith, few) in
          from_tip arrivals tip (tip_there arrivals hash tip branch d b) ∙ ap (λ k. way_back arrivals k [] tip) e
          ∙ comes arrivals tip hash (suc (length arrivals - length branch)) branch whole

      missing_here : has_arrived arrivals hash ≡ false → path_of arrivals tip ≡ Err (Missing hash)
      missing_here none = to_hash ∙ missing arrivals (length arrivals - length branch) branch hash (find_none (has_hash hash) arrivals none)

      loop_here : has_arrived branch hash ≡ true → path_of arrivals tip ≡ Err (Loop hash)
      loop_here met = by (find (has_hash hash) arrivals) refl
        where
          by : (r : Option Arrival) → find (has_hash hash) arrivals ≡ r → path_of arrivals tip ≡ Err (Loop hash)
          by None e = absurd (true≢false (sym (member arrivals branch whole.found hash met) ∙ none_any (has_hash hash) arrivals e))
          by (Some a) e = to_hash ∙ again arrivals (length arrivals - length branch) branch hash a e met

  -- what holds is what the function tells
  is_told : (told : Result (List Arrival) PathFault) → IsToldOf arrivals tip told → told ≡ path_of arrivals tip
  is_told (Ok path) t = sym (path_here no_hash path t refl)
  is_told (Err NoTip) t = sym (no_tip arrivals tip t.0)
  is_told (Err (Missing hash)) t = sym (missing_here hash t.0.branch t.0.is t.0.goes_on t.0.none)
  is_told (Err (Loop hash)) t = sym (loop_here hash t.0.branch t.0.is t.0.goes_on t.0.again)
  is_told (Err NoMemory) t = absurd (t.1 refl)

  -- what is told within so many steps holds
  abbrev Holds : ℕ → Type 0
  Holds n = (hash : Digest) (met : List Arrival) → IsMet arrivals tip hash met → n + length met ≡ suc (length arrivals)
      → (met ≡ [] → has_arrived arrivals hash ≡ true) → IsToldOf arrivals tip (way_back arrivals n met hash)

  -- what the function tells holds
  holds : (n : ℕ) (hash : Digest) (met : List Arrival) → IsMet arrivals tip hash met → n + length met ≡ suc (length arrivals)
      → (met ≡ [] → has_arrived arrivals hash ≡ true)
      → IsToldOf arrivals tip (way_back arrivals n met hash)
  holds zero hash met m count start = let few = few_met arrivals met tip hash m in absurd (omega (arith, few, count))
  holds (suc n) hash met m count start = by (λ prev xs. holds n prev xs) (find (has_hash hash) arrivals) refl
    where
      -- nothing is met at the start alone
      no_way : (met : List Arrival) → IsMet arrivals tip hash met → (met ≡ [] → has_arrived arrivals hash ≡ true)
          → find (has_hash hash) arrivals ≡ None → IsCause arrivals tip (Missing hash)
      no_way [] m start e = absurd (true≢false (sym (start refl) ∙ none_any (has_hash hash) arrivals e))
      no_way (a ∷ met) m start e = record {
        branch = a ∷ met;
        is = branch_met arrivals tip hash a met m;
        goes_on = λ z. m.going.0 (m.linked.0 ∙ z);
        none = none_any (has_hash hash) arrivals e;
      }

      looped : (met : List Arrival) → IsMet arrivals tip hash met → has_arrived met hash ≡ true → IsCause arrivals tip (Loop hash)
      looped [] m e = absurd (false≢true e)
      looped (a ∷ met) m e = record {
        branch = a ∷ met;
        is = branch_met arrivals tip hash a met m;
        goes_on = λ z. m.going.0 (m.linked.0 ∙ z);
        again =
            e;
      }

      told : (r : Result (List Arrival) PathFault) → way_back arrivals (suc n) met hash ≡ r → IsToldOf arrivals tip r
          → IsToldOf arrivals tip (way_back arrivals (suc n) met hash)
      told r e t = subst (IsToldOf arrivals tip) (sym e) t

      at_prev : Holds n → (a : Arrival) → find (has_hash hash) arrivals ≡ Some a → has_arrived met hash ≡ false → (b : Bool) → is_no_hash a.prev ≡ b
          → IsToldOf arrivals tip (way_back arrivals (suc n) met hash)
      at_prev less a e first true t =
          told (Ok (a ∷ met)) (begins arrivals n met hash a e first t)
          (subst (λ h. IsBranch arrivals h tip (a ∷ met)) (hash_is a.prev no_hash t) (branch_more arrivals tip hash met a m e first))
      at_prev less a e first false t =
          told (way_back arrivals n (a ∷ met) a.prev) (goes_on arrivals n met hash a e first t)
          (less a.prev (a ∷ met) (met_more arrivals tip hash met a m e first (some_hash a.prev t)) (omega (arith, count)) (λ z. absurd (not_empty z)))
        where
          not_empty : a ∷ met ≡ [] → ⊥
          not_empty z = absurd cc

      at_one : Holds n → (a : Arrival) → find (has_hash hash) arrivals ≡ Some a → (b : Bool) → has_arrived met hash ≡ b
          → IsToldOf arrivals tip (way_back arrivals (suc n) met hash)
      at_one less a e true t = told (Err (Loop hash)) (again arrivals n met hash a e t) (looped met m t, λ z. absurd cc)
      at_one less a e false t = at_prev less a e t (is_no_hash a.prev) refl

      by : Holds n → (r : Option Arrival) → find (has_hash hash) arrivals ≡ r → IsToldOf arrivals tip (way_back arrivals (suc n) met hash)
      by less None e = told (Err (Missing hash)) (missing arrivals n met hash e) (no_way met m start e, λ z. absurd cc)
      by less (Some a) e = at_one less a e (has_arrived met hash) refl

  none_once : AreDifferent []
  unfolding IsDistinct
  none_once = tt

  pub path_told : IsToldOf arrivals tip (path_of arrivals tip)
  path_told = by (has_arrived arrivals tip) refl
    where
      by : (b : Bool) → has_arrived arrivals tip ≡ b → IsToldOf arrivals tip (path_of arrivals tip)
      by true t =
          subst (IsToldOf arrivals tip) (sym (from_tip arrivals tip t))
          (holds (suc (length arrivals)) tip [] (record { found = tt; linked = tt; going = tt; once = none_once; ends = refl }) (omega arith)
          (λ z. t))
      by false t = subst (IsToldOf arrivals tip) (sym (no_tip arrivals tip t)) (t, λ z. absurd cc)

  pub only_told : (told : Result (List Arrival) PathFault) → IsToldOf arrivals tip told → told ≡ path_of arrivals tip
  only_told told t = is_told told t

pub path_is_told : PathIsTold
path_is_told arrivals tip d = (path_told arrivals tip d, only_told arrivals tip d)

pub one_path : OnePath
one_path arrivals tip d one other p q = same one other (only_told arrivals tip d (Ok one) p ∙ sym (only_told arrivals tip d (Ok other) q))
  where
    same : (xs ys : List Arrival) → (let r : Result (List Arrival) PathFault = Ok xs in r) ≡ Ok ys → xs ≡ ys
    same xs ys e = cc

-- ---- what is answered

module _ {T : Type 0} (items : T → List ℕ) (arrivals : List Arrival) (tip : Digest) (d : AreDifferent arrivals) where
  so : (told : Result (List Arrival) PathFault) → path_of arrivals tip ≡ told → IsToldOf arrivals tip told
  so told e = subst (IsToldOf arrivals tip) e (path_told arrivals tip d)

  pub path_given : (r : Result T PathFault) → Answers arrivals tip (result_map_both items (λ fault. fault) r)
      → IfOk r (λ numbers. (path : List Arrival) × AreNumbers arrivals (items numbers) path × IsPath arrivals tip path)
  path_given (Ok numbers) a = (a.0, a.1, so (Ok a.0) a.2)
  path_given (Err fault) a = tt

  pub cause_given : (r : Result T PathFault) → Answers arrivals tip (result_map_both items (λ fault. fault) r) → IfErr r (IsCause arrivals tip)
  cause_given (Ok numbers) a = tt
  cause_given (Err NoTip) a = (so (Err NoTip) a).0
  cause_given (Err (Missing hash)) a = (so (Err (Missing hash)) a).0
  cause_given (Err (Loop hash)) a = (so (Err (Loop hash)) a).0
  cause_given (Err NoMemory) a = tt

  no_path : (fault : PathFault) → path_of arrivals tip ≡ Err fault → (path : List Arrival) → IsPath arrivals tip path → ⊥
  no_path fault e path p = differ path fault (only_told arrivals tip d (Ok path) p ∙ e)
    where
      differ : (xs : List Arrival) (f : PathFault) → (let r : Result (List Arrival) PathFault = Ok xs in r) ≡ Err f → ⊥
      differ xs f g = absurd cc

  pub none_given : (r : Result T PathFault) → Answers arrivals tip (result_map_both items (λ fault. fault) r)
      → IfErr r (λ fault. fault ≢ NoMemory → (path : List Arrival) → IsPath arrivals tip path → ⊥)
  none_given (Ok numbers) a = tt
  none_given (Err NoTip) a = λ _. no_path NoTip a
  none_given (Err (Missing hash)) a = λ _. no_path (Missing hash) a
  none_given (Err (Loop hash)) a = λ _. no_path (Loop hash) a
  none_given (Err NoMemory) a = λ n. absurd (n refl)
