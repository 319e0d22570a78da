-- Known hashes are found by one pass over them, and given ones are filled in between.
use Rattle.std.proofs.Common.{◌≡◌, ◌≢◌, ℕ, zero, suc, ◌+◌, ◌<◌, Bool, true, false, List, [], ◌∷◌, ◌++◌, map, length, get_or, take, drop, filter}
use Rattle.std.proofs.Common.{Option, Some, None, refl, sym, ap, ◌∙◌, subst, ap₂, ⊎_elim, inl, inr, arith, append_assoc}
use Rattle.std.specs.Prelude.{◌⊎◌, ◌==◌, cond, is_none, option_map, slice_get, unwrap_or}
use Rattle.std.proofs.lemmas.Bool.{cases_Bool, cases_lt, cases_eq, eqb-true, false≢true, false_from_ne_true, or_left, or_right}
use Rattle.std.proofs.lemmas.List.{drop_all, drop_more, take_more, length-drop, map-append}
use Rattle.std.proofs.lemmas.List.Sums.{sum_by-cons}
use Rattle.std.proofs.lemmas.Option.{none-some, same_Some}
use Rattle.uo_digest.specs.declared.digest.Digest.{Digest}
use Rattle.forest_place.specs.declared.place.Place.{Place}
use Rattle.forest_place.specs.Places.{is_at, has_place, IsDistinct, IsBefore, IsAscending}
use Rattle.forest_place.proofs.Listed.{place, is_at-same, same_from_is_at}
use Rattle.forest_place.proofs.Before.{before_itself, before_trans, before_means}
use Rattle.forest_place.proofs.Ascending.{distinct_from_ascending}
use Rattle.forest_model.specs.Cover.{need}
use Rattle.forest_model.specs.Evaluation.{beside, asked}
use Rattle.forest_model.proofs.Lists.{need_ascending}
use Rattle.proof_shape.specs.Targeted.{Targeted}
use Rattle.node_rules.specs.Messages.{Message, known_to}
use Rattle.block_rules.specs.Steps.{unless}
use Rattle.block_rules.specs.declared.refusal.ProofRefusal.TheVariants.{HashCount}
use Rattle.block_rules.specs.declared.refusal.Refusal.TheVariants as Why
use Rattle.node_rules.specs.Accepting.{count_fault}
use Rattle.node_rules.specs.Judged.{AreHashes}
use Rattle.cache_model.specs.Cache.{look}
use Rattle.cache_model.specs.Lists.{AscendByPlace}
use Rattle.cache_model.specs.Undo.{find, is_same_place, held_key}
use Rattle.node_rules.specs.Filled.{IsFrom, nones, filled, IsNextHash}

-- ---- the order of places

-- what comes before a place comes before all from there on
before_from : (p q r : Place) → IsBefore p q → IsFrom q r → IsBefore p r
before_from p q r a b = ⊎_elim (λ e. subst (IsBefore p) e a) (λ c. before_trans p q r a c) b

-- what comes before a place is not there
not_there : (p q : Place) → IsBefore p q → is_at q.row q.off p ≡ false
not_there p q a = false_from_ne_true _ (λ same. before_itself q (subst (λ x. IsBefore x q) (same_from_is_at q.row q.off p same) a))

-- of two places one comes first, or they are one
in_order : (p q : Place) → (IsBefore p q → ⊥) → (is_at q.row q.off p ≡ true) ⊎ IsBefore q p
in_order p q not_first =
    ⊎_elim
    (λ low. inr (inl low))
    (λ ge. ⊎_elim
    (λ (row : p.row ≡ q.row). ⊎_elim
    (λ low. inr (inr (sym row, low)))
    (λ up. ⊎_elim
    (λ (off : p.off ≡ q.off). inl (let e : p ≡ q = ap₂ (λ (x y : ℕ). place x y) row off in
    subst (λ (x : Place). is_at q.row q.off x ≡ true) (sym e) (is_at-same q.row q.off)))
    (λ other. absurd (not_first (inr (row, omega (arith, up, other)))))
    (cases_eq p.off q.off))
    (cases_lt q.off p.off))
    (λ other. absurd (not_first (inl (omega (arith, ge, other)))))
    (cases_eq p.row q.row))
    (cases_lt q.row p.row)

-- ---- one pass over what is known

abbrev Entry : Type 0
Entry = Place × Digest

is_there : (ks : List Entry) (q : Place) → has_place (map (λ (k : Entry). k.0) ks) q.row q.off ≡ true
    → (k : Entry) × (find is_same_place held_key q ks ≡ Some k)
is_there [] q h = absurd (false≢true h)
is_there (k ∷ ks) q h =
    ⊎_elim
    (λ (at : is_at q.row q.off k.0 ≡ true). (k, rw at refl))
    (λ (other : is_at q.row q.off k.0 ≡ false). let later = is_there ks q (rw other at h) in (later.0, rw other later.1))
    (cases_Bool (is_at q.row q.off k.0))

ascending : (ks : List Entry) → AscendByPlace ks → IsAscending (map (λ (k : Entry). k.0) ks)
ascending [] a = tt
ascending (k ∷ ks) a = (λ q h. let there = is_there ks q h in before_means k.0 q (a.0 q there.0 there.1), ascending ks a.1)

-- an entry that comes before a place is passed
pub passed : (ks : List Entry) (i : ℕ) (d : Entry) (p q : Place) → i < length ks → IsBefore (get_or ks i d).0 p → IsFrom p q
    → look (drop i ks) q.row q.off ≡ look (drop (i + 1) ks) q.row q.off
passed ks i d p q lt before from = let other = not_there (get_or ks i d).0 q (before_from (get_or ks i d).0 p q before from) in
    rw (drop_more ks i d lt, other) refl

-- nothing is known before all entries
none_known : (ks : List Entry) (q : Place) → ((p : Place) → has_place (map (λ k. k.0) ks) p.row p.off ≡ true → IsBefore q p)
    → look ks q.row q.off ≡ None
none_known [] q h = refl
none_known (k ∷ ks) q h =
    let first = h k.0 (or_left (is_at k.0.row k.0.off k.0) (has_place (map (λ x. x.0) ks) k.0.row k.0.off) (is_at-same k.0.row k.0.off)) in
    let other : is_at q.row q.off k.0 ≡ false =
    false_from_ne_true _ (λ same. before_itself q (subst (IsBefore q) (same_from_is_at q.row q.off k.0 same) first)) in
    rw other (none_known ks q (λ p i. h p (or_right (is_at p.row p.off k.0) (has_place (map (λ x. x.0) ks) p.row p.off) i)))

ascends_from : (ks : List Entry) (i : ℕ) → AscendByPlace ks → AscendByPlace (drop i ks)
ascends_from [] zero a = a
ascends_from [] (suc i) a = a
ascends_from (k ∷ ks) zero a = a
ascends_from (k ∷ ks) (suc i) a = ascends_from ks i a.1

-- where an entry does not come before a place, it alone may be known there
pub here_alone : (ks : List Entry) (i : ℕ) (d : Entry) (q : Place) → AscendByPlace ks → i < length ks → (IsBefore (get_or ks i d).0 q → ⊥)
    → look (get_or ks i d ∷ []) q.row q.off ≡ look (drop i ks) q.row q.off
here_alone ks i d q ascends lt not_before =
    let e = drop_more ks i d lt in
    let k = get_or ks i d in
    let a = ascending (k ∷ drop (i + 1) ks) (subst AscendByPlace e (ascends_from ks i ascends)) in
    ⊎_elim
    (λ (at : is_at q.row q.off k.0 ≡ true). rw (e, at) refl)
    (λ (other : is_at q.row q.off k.0 ≡ false).
    let later = none_known (drop (i + 1) ks) q (λ p h. before_trans q k.0 p (behind other (in_order k.0 q not_before)) (a.0 p h)) in
    rw (e, other) (sym later))
    (cases_Bool (is_at q.row q.off k.0))
  where
    behind : {p : Place} → is_at q.row q.off p ≡ false → (is_at q.row q.off p ≡ true) ⊎ IsBefore q p → IsBefore q p
    behind other (inl at) = absurd (false≢true (sym other ∙ at))
    behind other (inr b) = b

-- ---- the hashes, one by one

-- one more hash
pub next_filled : (hashes : List Digest) (x : Option Digest) (xs : List (Option Digest)) (next later : ℕ) (hash : Digest)
    → IsNextHash hashes x next hash later → filled hashes next (x ∷ xs) ≡ hash ∷ filled hashes later xs
next_filled hashes (Some d) xs next later hash (is, same) = ap₂ (λ (h : Digest) (k : ℕ). h ∷ filled hashes k xs) (sym is) (sym same)
next_filled hashes None xs next later hash (got, same) =
    let z : suc next ≡ later = omega (arith, same) in
    ap₂ (λ (h : Digest) (k : ℕ). h ∷ filled hashes k xs) (got_is hashes next got) z
  where
    got_is : (hs : List Digest) (k : ℕ) → slice_get hs k ≡ Some hash → get_or hs k (record { 0 = [] }) ≡ hash
    got_is [] k e = absurd (none-some _ e)
    got_is (h ∷ hs) zero e = same_Some h hash e
    got_is (h ∷ hs) (suc k) e = got_is hs k e

pub next_count : (x : Option Digest) (xs : List (Option Digest)) (hashes : List Digest) (next later : ℕ) (hash : Digest)
    → IsNextHash hashes x next hash later → next + nones (x ∷ xs) ≡ later + nones xs
next_count (Some d) xs hashes next later hash (is, same) = let e : nones (Some d ∷ xs) ≡ 0 + nones xs = sum_by-cons _ (Some d) xs in
    omega (arith, same, e)
next_count None xs hashes next later hash (got, same) = let e : nones (None ∷ xs) ≡ 1 + nones xs = sum_by-cons _ None xs in omega (arith, same, e)

-- ---- what the hashes are

same_map : (g h : Place → Digest) (ps : List Place) → ((x : Place) → has_place ps x.row x.off ≡ true → g x ≡ h x) → map g ps ≡ map h ps
same_map g h [] e = refl
same_map g h (p ∷ ps) e =
    ap₂ (λ (x : Digest) (xs : List Digest). x ∷ xs) (e p (or_left (is_at p.row p.off p) (has_place ps p.row p.off) (is_at-same p.row p.off)))
    (same_map g h ps (λ x i. e x (or_right (is_at x.row x.off p) (has_place ps x.row x.off) i)))

module _ (none : Digest) (f : Place → Option Digest) where
  abbrev asked_of : List Place → List Place
  asked_of ps = filter (λ p. is_none (f p)) ps

  abbrev hash_at : List Place → List Digest → Place → Digest
  hash_at qs hs q = unwrap_or (f q) (beside none qs hs q.row q.off)

  -- behind a place that is not there
  hash_behind : (p : Place) (ps qs : List Place) (h : Digest) (hs : List Digest) → has_place ps p.row p.off ≡ false → (q : Place)
      → has_place ps q.row q.off ≡ true → hash_at qs hs q ≡ hash_at (p ∷ qs) (h ∷ hs) q
  hash_behind p ps qs h hs d q i =
      let other : is_at q.row q.off p ≡ false = false_from_ne_true _
      (λ same. false≢true (sym d ∙ subst (λ (x : Place). has_place ps x.row x.off ≡ true) (sym (same_from_is_at q.row q.off p same)) i)) in
      rw other refl

  hash_known : (p : Place) (qs : List Place) (h : Digest) (hs : List Digest) → f p ≡ Some h → h ≡ hash_at qs hs p
  hash_known p qs h hs e = rw e refl

  hash_first : (p : Place) (qs : List Place) (h : Digest) (hs : List Digest) → f p ≡ None → h ≡ hash_at (p ∷ qs) (h ∷ hs) p
  hash_first p qs h hs e = let here : is_at p.row p.off p ≡ true = is_at-same p.row p.off in rw (e, here) refl

  -- each hash is the known one, or else that beside the place
  pub filled_is : (ps : List Place) (hashes : List Digest) (next : ℕ) → IsDistinct ps → length (drop next hashes) ≡ length (asked_of ps) →
      filled hashes next (map f ps) ≡ map (hash_at (asked_of ps) (drop next hashes)) ps
  filled_is [] hashes next d count = refl
  filled_is (p ∷ ps) hashes next d count = by_known (λ k. filled_is ps hashes k d.1) (f p) refl
    where
      by_known : ((k : ℕ) → length (drop k hashes) ≡ length (asked_of ps)
          → filled hashes k (map f ps) ≡ map (hash_at (asked_of ps) (drop k hashes)) ps) → (x : Option Digest) → f p ≡ x
          → filled hashes next (f p ∷ map f ps) ≡ map (hash_at (asked_of (p ∷ ps)) (drop next hashes)) (p ∷ ps)
      by_known later (Some h) e =
          let few : length (drop next hashes) ≡ length (asked_of ps) = rw e at count in
          let same : asked_of (p ∷ ps) ≡ asked_of ps = rw e refl in
          ap (λ x. filled hashes next (x ∷ map f ps)) e
          ∙ (ap₂ (λ (y : Digest) (ys : List Digest). y ∷ ys) (hash_known p (asked_of ps) h (drop next hashes) e) (later next few)
          ∙ ap (λ (qs : List Place). map (hash_at qs (drop next hashes)) (p ∷ ps)) (sym same))
      by_known later None e =
          let many : length (drop next hashes) ≡ suc (length (asked_of ps)) = rw e at count in
          let n = length-drop next hashes in
          let lt : next < length hashes = omega (arith, many, n) in
          let h : Digest = get_or hashes next (record { 0 = [] }) in
          let one : next + 1 ≡ suc next = omega arith in
          let more : drop next hashes ≡ h ∷ drop (suc next) hashes = drop_more hashes next (record { 0 = [] }) lt ∙ ap (λ k. h ∷ drop k hashes) one in
          let n' = length-drop (suc next) hashes in
          let few : length (drop (suc next) hashes) ≡ length (asked_of ps) = omega (arith, many, n, n') in
          let behind = later (suc next) few ∙ same_map (hash_at (asked_of ps) (drop (suc next) hashes))
          (hash_at (p ∷ asked_of ps) (h ∷ drop (suc next) hashes)) ps (hash_behind p ps (asked_of ps) h (drop (suc next) hashes) d.0) in
          let first : asked_of (p ∷ ps) ≡ p ∷ asked_of ps = rw e refl in
          ap (λ x. filled hashes next (x ∷ map f ps)) e
          ∙ (ap₂ (λ (y : Digest) (ys : List Digest). y ∷ ys) (hash_first p (asked_of ps) h (drop (suc next) hashes) e) behind
          ∙ ap₂ (λ (qs : List Place) (hs : List Digest). map (hash_at qs hs) (p ∷ ps)) (sym first) (sym more))

-- ---- what is known at each place of a list

module _ (ks : List Entry) (ps : List Place) (i : ℕ) (d : Place) (lt : i < length ps) where
  abbrev here : Place
  here = get_or ps i d

  it_is : has_place (drop i ps) here.row here.off ≡ true
  it_is = rw (drop_more ps i d lt) (or_left (is_at here.row here.off here) (has_place (drop (i + 1) ps) here.row here.off)
      (is_at-same here.row here.off))

  pub found_more : (next : ℕ) (found new : List (Option Digest)) (x : Option Digest) → found ≡ map (λ (p : Place). look ks p.row p.off) (take i ps) →
      ((q : Place) → has_place (drop i ps) q.row q.off ≡ true → look ks q.row q.off ≡ look (drop next ks) q.row q.off) →
      x ≡ look (drop next ks) here.row here.off → new ≡ found ++ x ∷ [] → new ≡ map (λ (p : Place). look ks p.row p.off) (take (i + 1) ps)
  found_more next found new x was ahead is e =
      let f : Place → Option Digest = λ (p : Place). look ks p.row p.off in
      e ∙ (ap₂ (λ (xs : List (Option Digest)) (y : Option Digest). xs ++ y ∷ []) was (is ∙ sym (ahead here it_is))
      ∙ (sym (map-append f (take i ps) (here ∷ [])) ∙ ap (map f) (sym (take_more ps i d lt))))

  pub ahead_more : (next later : ℕ) → IsAscending ps
      → ((q : Place) → has_place (drop i ps) q.row q.off ≡ true → look ks q.row q.off ≡ look (drop next ks) q.row q.off) →
      ((q : Place) → IsFrom here q → look (drop next ks) q.row q.off ≡ look (drop later ks) q.row q.off) →
      (q : Place) → has_place (drop (i + 1) ps) q.row q.off ≡ true → look ks q.row q.off ≡ look (drop later ks) q.row q.off
  ahead_more next later ascends ahead same q h =
      let e = drop_more ps i d lt in
      let a : IsAscending (here ∷ drop (i + 1) ps) = subst IsAscending e (ascends_at ps i ascends) in
      let in_it : has_place (drop i ps) q.row q.off ≡ true = rw e (or_right (is_at q.row q.off here) (has_place (drop (i + 1) ps) q.row q.off) h) in
      ahead q in_it ∙ same q (inr (a.0 q h))
    where
      ascends_at : (ps : List Place) (i : ℕ) → IsAscending ps → IsAscending (drop i ps)
      ascends_at [] zero a = a
      ascends_at [] (suc i) a = a
      ascends_at (p ∷ ps) zero a = a
      ascends_at (p ∷ ps) (suc i) a = ascends_at ps i a.1

-- ---- the next hash is put behind the others

pub fill_more : (hashes : List Digest) (ks : List (Option Digest)) (i : ℕ) (d : Option Digest) (next later : ℕ) (hash : Digest)
    (old new : List Digest) → i < length ks → IsNextHash hashes (get_or ks i d) next hash later → new ≡ old ++ hash ∷ [] →
    old ++ filled hashes next (drop i ks) ≡ filled hashes 0 ks → new ++ filled hashes later (drop (i + 1) ks) ≡ filled hashes 0 ks
fill_more hashes ks i d next later hash old new lt is e was =
    ap (λ (l : List Digest). l ++ filled hashes later (drop (i + 1) ks)) e
    ∙ (append_assoc old (hash ∷ []) (filled hashes later (drop (i + 1) ks))
    ∙ (ap (λ (l : List Digest). old ++ l) (sym
    (ap (filled hashes next) (drop_more ks i d lt) ∙ next_filled hashes (get_or ks i d) (drop (i + 1) ks) next later hash is)) ∙ was))

pub count_more : (hashes : List Digest) (ks : List (Option Digest)) (i : ℕ) (d : Option Digest) (next later : ℕ) (hash : Digest) → i < length ks
    → IsNextHash hashes (get_or ks i d) next hash later →
    next + nones (drop i ks) ≡ length hashes → later + nones (drop (i + 1) ks) ≡ length hashes
count_more hashes ks i d next later hash lt is was =
    sym (next_count (get_or ks i d) (drop (i + 1) ks) hashes next later hash is)
    ∙ (ap (λ (l : List (Option Digest)). next + nones l) (sym (drop_more ks i d lt)) ∙ was)

-- ---- all together

nones_asked : (f : Place → Option Digest) (ps : List Place) → nones (map f ps) ≡ length (filter (λ p. is_none (f p)) ps)
nones_asked f [] = refl
nones_asked f (p ∷ ps) = sum_by-cons _ (f p) (map f ps) ∙ by_test (is_none (f p)) refl (nones_asked f ps)
  where
    by_test : (b : Bool) → is_none (f p) ≡ b → nones (map f ps) ≡ length (filter (λ q. is_none (f q)) ps)
        → cond (is_none (f p)) 1 0 + nones (map f ps) ≡ length (filter (λ q. is_none (f q)) (p ∷ ps))
    by_test true e rest = rw (e, rest) (omega arith)
    by_test false e rest = rw (e, rest) (omega arith)

same_known : (f g : Place → Option Digest) (ps : List Place) → ((p : Place) → f p ≡ g p) → map f ps ≡ map g ps
same_known f g [] e = refl
same_known f g (p ∷ ps) e = ap₂ (λ (x : Option Digest) (xs : List (Option Digest)). x ∷ xs) (e p) (same_known f g ps e)

module _ (m : Message) (t : Targeted) (known : ℕ → ℕ → Option Digest) (ks : List Entry) (same : (row off : ℕ)
    → look ks row off ≡ known_to m.lean known row off)
    (needed : List Place) (found : List (Option Digest)) (needed_is : needed ≡ need t.leaves t.targets)
    (found_is : found ≡ map (λ (p : Place). look ks p.row p.off) needed) where
  abbrev known_there : Place → Option Digest
  known_there p = known_to m.lean known p.row p.off

  found_there : found ≡ map known_there (need t.leaves t.targets)
  found_there = found_is ∙ (same_known (λ (p : Place). look ks p.row p.off) known_there needed (λ p. same p.row p.off)
      ∙ ap (map known_there) needed_is)

  asked_are : nones found ≡ length (asked t.leaves t.targets (known_to m.lean known))
  asked_are = ap nones found_there ∙ nones_asked known_there (need t.leaves t.targets)

  pub other_count : (want got : ℕ) → want ≡ nones found → got ≡ length m.proof.hashes → got ≢ want
      → option_map Why.Proof (count_fault t.leaves t.targets known m) ≡ Some (Why.Proof (HashCount want got))
  other_count want got w g d =
      let wanted : want ≡ length (asked t.leaves t.targets (known_to m.lean known)) = w ∙ asked_are in
      let fault = λ (a b : ℕ). option_map Why.Proof (unless (b == a) (HashCount a b)) in
      let f : (got == want) ≡ false = false_from_ne_true (got == want) (λ same. d (eqb-true got want same)) in
      sym (ap₂ fault wanted g) ∙ ap (λ x. option_map Why.Proof (unless x (HashCount want got))) f

  pub are_hashes : (want got : ℕ) (hashes : List Digest) → want ≡ nones found → got ≡ length m.proof.hashes → got ≡ want
      → hashes ≡ filled m.proof.hashes 0 found → AreHashes m t known hashes
  are_hashes want got hashes w g e is =
      let count : length m.proof.hashes ≡ length (asked t.leaves t.targets (known_to m.lean known)) = sym g ∙ (e ∙ (w ∙ asked_are)) in
      record {
        count = count;
        hashes_are = λ H. is ∙ (ap (filled m.proof.hashes 0) found_there
            ∙ filled_is (H []) known_there (need t.leaves t.targets) m.proof.hashes 0
            (distinct_from_ascending (need t.leaves t.targets) (need_ascending t.leaves t.targets)) count);
      }

-- where nothing is known, all that is needed is given
abbrev unknown_all : List Place → List (Option Digest)
unknown_all ps = map (λ (p : Place). look [] p.row p.off) ps

nothing_found : (ps : List Place) → nones (unknown_all ps) ≡ length ps
nothing_found [] = refl
nothing_found (p ∷ ps) = sum_by-cons (λ (x : Option Digest). cond (is_none x) 1 0) None (unknown_all ps)
    ∙ (let e = nothing_found ps in omega (arith, e))

nothing_filled : (ps : List Place) (hashes : List Digest) (next : ℕ) → length ps + next ≡ length hashes
    → drop next hashes ≡ filled hashes next (unknown_all ps)
nothing_filled [] hashes next e = drop_all next hashes (omega (arith, e))
nothing_filled (p ∷ ps) hashes next e =
    let more : next + 1 ≡ suc next = omega arith in
    drop_more hashes next (record { 0 = [] }) (omega (arith, e))
    ∙ ap (λ l. get_or hashes next (record { 0 = [] }) ∷ l) (ap (λ k. drop k hashes) more ∙ nothing_filled ps hashes (suc next) (omega (arith, e)))

module _ (m : Message) (t : Targeted) (known : ℕ → ℕ → Option Digest) (none : (row off : ℕ) → known_to m.lean known row off ≡ None)
    (needed : List Place) (needed_is : needed ≡ need t.leaves t.targets) where
  abbrev unknown : (row off : ℕ) → look [] row off ≡ known_to m.lean known row off
  unknown row off = sym (none row off)

  pub given_count : (want got : ℕ) → want ≡ length needed → got ≡ length m.proof.hashes → got ≢ want
      → option_map Why.Proof (count_fault t.leaves t.targets known m) ≡ Some (Why.Proof (HashCount want got))
  given_count want got w g d = other_count m t known [] unknown needed (unknown_all needed) needed_is refl want got (w ∙ sym (nothing_found needed)) g
      d

  pub given_are : (want got : ℕ) (hashes : List Digest) → want ≡ length needed → got ≡ length m.proof.hashes → got ≡ want → hashes ≡ m.proof.hashes
      → AreHashes m t known hashes
  given_are want got hashes w g e is =
      are_hashes m t known [] unknown needed (unknown_all needed) needed_is refl want got hashes (w ∙ sym (nothing_found needed)) g e
      (is ∙ nothing_filled needed m.proof.hashes 0 (omega (arith, w, g, e)))
