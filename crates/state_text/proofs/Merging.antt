-- Two ascending lists of places as one.
use Rattle.std.proofs.Common.{◌≡◌, ℕ, zero, suc, ◌+◌, ◌<◌, ◌≤◌, true, false, List, [], ◌∷◌, ◌++◌, map, length, get_or, take, drop, append-nil, refl}
use Rattle.std.proofs.Common.{sym, ap, ◌∙◌, subst, arith, ⊎_elim, inl, inr, add-one}
use Rattle.std.specs.Prelude.{◌⊎◌}
use Rattle.std.specs.List.{AllByRecursion}
use Rattle.std.proofs.lemmas.Bool.{cases_Bool, or_cases, or_left, or_right, false≢true}
use Rattle.std.proofs.lemmas.List.{drop_all}
use Rattle.uo_digest.specs.declared.digest.Digest.{Digest}
use Rattle.forest_place.specs.declared.place.Place.{Place}
use Rattle.forest_place.specs.Places.{is_at, has_place, IsBefore, IsAscending, is_before_place}
use Rattle.forest_place.proofs.Before.{before_means, before_trans, other_way}
use Rattle.forest_place.proofs.Listed.{same_from_is_at, is_at-same}
use Rattle.state_text.specs.Merged.{merged_under, merged, paired}

abbrev Held : Type 0
Held = Place × Digest

abbrev pub places_in : List Held → List Place
places_in hs = map (λ h. h.0) hs

pub merged-nil : (xs : List Held) → merged xs [] ≡ xs
merged-nil [] = refl
merged-nil (x ∷ xs) = ap (λ zs. x ∷ zs) (merged-nil xs)

-- ---- what holds of both lists

pub merged-all : (P : Held → Type 0) (xs ys : List Held) → AllByRecursion P xs → AllByRecursion P ys → AllByRecursion P (merged xs ys)
merged-all P [] ys a b = b
merged-all P (x ∷ xs) ys a b = under (λ zs c. merged-all P xs zs a.1 c) ys b
  where
    under : ((zs : List Held) → AllByRecursion P zs → AllByRecursion P (merged xs zs)) → (zs : List Held) → AllByRecursion P zs
        → AllByRecursion P (merged_under x (merged xs) zs)
    under rest [] b = (a.0, rest [] b)
    under rest (y ∷ zs) b =
        ⊎_elim (λ t. rw t (a.0, rest (y ∷ zs) b)) (λ f. rw f (b.0, under rest zs b.1)) (cases_Bool (is_before_place x.0 y.0))

-- ---- which places are in it

pub merged-has : (xs ys : List Held) (r o : ℕ) → (has_place (places_in xs) r o ≡ true) ⊎ (has_place (places_in ys) r o ≡ true)
    → has_place (places_in (merged xs ys)) r o ≡ true
merged-has [] ys r o h = ⊎_elim (λ a. absurd (false≢true a)) (λ b. b) h
merged-has (x ∷ xs) ys r o h = under (λ zs k. merged-has xs zs r o k) ys h
  where
    under : ((zs : List Held) → (has_place (places_in xs) r o ≡ true) ⊎ (has_place (places_in zs) r o ≡ true)
        → has_place (places_in (merged xs zs)) r o ≡ true) → (zs : List Held) → (has_place (places_in (x ∷ xs)) r o ≡ true)
        ⊎ (has_place (places_in zs) r o ≡ true) → has_place (places_in (merged_under x (merged xs) zs)) r o ≡ true
    under rest [] h =
        ⊎_elim
        (λ a. ⊎_elim (λ here. or_left (is_at r o x.0) _ here) (λ there. or_right (is_at r o x.0) _ (rest [] (inl there)))
        (or_cases (is_at r o x.0) (has_place (places_in xs) r o) a))
        (λ b. absurd (false≢true b))
        h
    under rest (y ∷ zs) h =
        ⊎_elim
        (λ t. rw t
        (⊎_elim
        (λ a. ⊎_elim (λ here. or_left (is_at r o x.0) _ here) (λ there. or_right (is_at r o x.0) _ (rest (y ∷ zs) (inl there)))
        (or_cases (is_at r o x.0) (has_place (places_in xs) r o) a))
        (λ b. or_right (is_at r o x.0) _ (rest (y ∷ zs) (inr b)))
        h))
        (λ f. rw f
        (⊎_elim
        (λ a. or_right (is_at r o y.0) _ (under rest zs (inl a)))
        (λ b. ⊎_elim (λ here. or_left (is_at r o y.0) _ here) (λ there. or_right (is_at r o y.0) _ (under rest zs (inr there)))
        (or_cases (is_at r o y.0) (has_place (places_in zs) r o) b))
        h))
        (cases_Bool (is_before_place x.0 y.0))

pub merged-had : (xs ys : List Held) (r o : ℕ) → has_place (places_in (merged xs ys)) r o ≡ true → (has_place (places_in xs) r o ≡ true)
    ⊎ (has_place (places_in ys) r o ≡ true)
merged-had [] ys r o h = inr h
merged-had (x ∷ xs) ys r o h = under (λ zs k. merged-had xs zs r o k) ys h
  where
    under : ((zs : List Held) → has_place (places_in (merged xs zs)) r o ≡ true → (has_place (places_in xs) r o ≡ true)
        ⊎ (has_place (places_in zs) r o ≡ true)) → (zs : List Held) → has_place (places_in (merged_under x (merged xs) zs)) r o ≡ true
        → (has_place (places_in (x ∷ xs)) r o ≡ true) ⊎ (has_place (places_in zs) r o ≡ true)
    under rest [] h =
        ⊎_elim (λ here. inl (or_left (is_at r o x.0) _ here))
        (λ there. ⊎_elim (λ a. inl (or_right (is_at r o x.0) _ a)) (λ b. inr b) (rest [] there))
        (or_cases (is_at r o x.0) (has_place (places_in (merged xs [])) r o) h)
    under rest (y ∷ zs) h =
        ⊎_elim
        (λ t.
        let h' : has_place (places_in (x ∷ merged xs (y ∷ zs))) r o ≡ true = rw t at h in
        ⊎_elim (λ here. inl (or_left (is_at r o x.0) _ here))
        (λ there. ⊎_elim (λ a. inl (or_right (is_at r o x.0) _ a)) (λ b. inr b) (rest (y ∷ zs) there))
        (or_cases (is_at r o x.0) (has_place (places_in (merged xs (y ∷ zs))) r o) h'))
        (λ f.
        let h' : has_place (places_in (y ∷ merged_under x (merged xs) zs)) r o ≡ true = rw f at h in
        ⊎_elim (λ here. inr (or_left (is_at r o y.0) _ here))
        (λ there. ⊎_elim (λ a. inl a) (λ b. inr (or_right (is_at r o y.0) _ b)) (under rest zs there))
        (or_cases (is_at r o y.0) (has_place (places_in (merged_under x (merged xs) zs)) r o) h'))
        (cases_Bool (is_before_place x.0 y.0))

-- ---- its order

-- no place is in both lists
abbrev pub AreApart : List Held → List Held → Type 0
AreApart xs ys = (r o : ℕ) → has_place (places_in xs) r o ≡ true → has_place (places_in ys) r o ≡ true → ⊥

first-has : (x : Held) (xs : List Held) → has_place (places_in (x ∷ xs)) x.0.row x.0.off ≡ true
first-has x xs = or_left (is_at x.0.row x.0.off x.0) _ (is_at-same x.0.row x.0.off)

-- a place that comes before the first of an ascending list comes before all of it
before-all : (p : Place) (y : Held) (ys : List Held) → IsBefore p y.0 → IsAscending (places_in (y ∷ ys)) → (q : Place)
    → has_place (places_in (y ∷ ys)) q.row q.off ≡ true → IsBefore p q
before-all p y ys lt asc q h =
    ⊎_elim
    (λ here. subst (IsBefore p) (same_from_is_at q.row q.off y.0 here) lt)
    (λ there. before_trans p y.0 q lt (asc.0 q there))
    (or_cases (is_at q.row q.off y.0) (has_place (places_in ys) q.row q.off) h)

pub merged-ascends : (xs ys : List Held) → IsAscending (places_in xs) → IsAscending (places_in ys) → AreApart xs ys
    → IsAscending (places_in (merged xs ys))
merged-ascends [] ys a b apart = b
merged-ascends (x ∷ xs) ys a b apart = under (λ zs c d. merged-ascends xs zs a.1 c d) ys b apart
  where
    fewer : (zs : List Held) → AreApart (x ∷ xs) zs → AreApart xs zs
    fewer zs apart r o h k = apart r o (or_right (is_at r o x.0) _ h) k

    under : ((zs : List Held) → IsAscending (places_in zs) → AreApart xs zs → IsAscending (places_in (merged xs zs))) → (zs : List Held)
        → IsAscending (places_in zs) → AreApart (x ∷ xs) zs → IsAscending (places_in (merged_under x (merged xs) zs))
    under rest [] b apart =
        (λ q h. ⊎_elim (λ l. a.0 q l) (λ r. absurd (false≢true r)) (merged-had xs [] q.row q.off h), rest [] b (fewer [] apart))
    under rest (y ∷ zs) b apart =
        ⊎_elim
        (λ t. rw t (
          λ q h. ⊎_elim (λ l. a.0 q l) (λ r. before-all x.0 y zs (before_means x.0 y.0 t) b q r) (merged-had xs (y ∷ zs) q.row q.off h),
          rest (y ∷ zs) b (fewer (y ∷ zs) apart),
        ))
        (λ f.
        let gt : IsBefore y.0 x.0 = other_way x.0 y.0 f (λ same. apart x.0.row x.0.off (first-has x xs)
        (subst (λ (p : Place). has_place (places_in (y ∷ zs)) p.row p.off ≡ true) (sym same) (first-has y zs))) in
        rw f (
          λ q h. ⊎_elim (λ l. before-all y.0 x xs gt a q l) (λ r. b.0 q r) (merged-had (x ∷ xs) zs q.row q.off h),
          under rest zs b.1 (λ r o h k. apart r o h (or_right (is_at r o y.0) _ k)),
        ))
        (cases_Bool (is_before_place x.0 y.0))

-- ---- places with digests

pub places-paired : (ps : List Place) (ds : List Digest) → length ds ≡ length ps → places_in (paired ps ds) ≡ ps
places-paired [] ds e = refl
places-paired (p ∷ ps) [] e = absurd (omega (arith, e))
places-paired (p ∷ ps) (d ∷ ds) e = ap (λ qs. p ∷ qs) (places-paired ps ds (omega (arith, e)))

pub paired-more : (ps : List Place) (ds : List Digest) (i : ℕ) (p : Place) (d : Digest) → i < length ps → length ds ≡ length ps
    → paired (take (i + 1) ps) (take (i + 1) ds) ≡ paired (take i ps) (take i ds) ++ (get_or ps i p, get_or ds i d) ∷ []
paired-more ps ds i p d lt e = rw add-one (more ps ds i lt e)
  where
    more : (ps : List Place) (ds : List Digest) (i : ℕ) → i < length ps → length ds ≡ length ps
        → paired (take (suc i) ps) (take (suc i) ds) ≡ paired (take i ps) (take i ds) ++ (get_or ps i p, get_or ds i d) ∷ []
    more [] ds i lt e = absurd (omega (arith, lt))
    more (q ∷ qs) [] i lt e = absurd (omega (arith, e))
    more (q ∷ qs) (c ∷ cs) zero lt e = refl
    more (q ∷ qs) (c ∷ cs) (suc i) lt e = ap (λ zs. (q, c) ∷ zs) (more qs cs i (omega (arith, lt)) (omega (arith, e)))

-- ---- one list at its end

pub merge-ends : (out left right : List Held) (i j : ℕ) → out ++ merged (drop i left) (drop j right) ≡ merged left right
    → (length left ≤ i) ⊎ (length right ≤ j) → (out ++ drop i left) ++ drop j right ≡ merged left right
merge-ends out left right i j whole (inl none) =
    let e : drop i left ≡ [] = drop_all i left none in
    ap (λ x. (out ++ x) ++ drop j right) e ∙ (ap (λ x. x ++ drop j right) (append-nil out)
    ∙ (ap (λ x. out ++ merged x (drop j right)) (sym e) ∙ whole))
merge-ends out left right i j whole (inr none) =
    let e : drop j right ≡ [] = drop_all j right none in
    ap (λ x. (out ++ drop i left) ++ x) e ∙ (append-nil (out ++ drop i left)
    ∙ (ap (λ x. out ++ x) (sym (merged-nil (drop i left))) ∙ (ap (λ x. out ++ merged (drop i left) x) (sym e) ∙ whole)))
