-- Serials of a chain, kept with the newest last, and what is said of them with the newest first.
use Rattle.std.proofs.Common.{◌≡◌, ◌≢◌, ℕ, zero, suc, ◌+◌, ◌-◌, ◌≤◌, ◌<◌, true, false, List, [], ◌∷◌, ◌++◌, ◌^◌, map, reverse, get_or, length, take}
use Rattle.std.proofs.Common.{drop, Option, Some, None, Err, refl, sym, ap, ◌∙◌, subst, arith, eq-eqb, inl, inr, ⊎_elim}
use Rattle.std.specs.Prelude.{IfSome, is_some, slice_index, ◌==◌, ◌⊎◌, option_map}
use Rattle.std.proofs.lemmas.Bool.{cases_Bool, cases_lt, eqb-true, false≢true}
use Rattle.std.proofs.lemmas.List.{length-map, get_or-reverse, length-reverse, length-take, reverse-append, take_all, take_at, get_or-take}
use Rattle.std.proofs.lemmas.List.{get_or_push, get_or_append_left, length_push}
use Rattle.std.proofs.lemmas.List.Sorted.{searched}
use Rattle.std.specs.List.Sorted.{IsBinarySearchResult}
use Rattle.std.specs.Ordering.{nat_cmp}
use Rattle.relay_core.specs.World.{is_on, fork_index, after_on}
use Rattle.relay_core.specs.Rising.{IsRising, IsKept}

-- ---- on a chain

pub on_not : (xs : List ℕ) (s : ℕ) → ((k : ℕ) → k < length xs → get_or xs k 0 ≢ s) → is_on xs s ≡ false
on_not [] s h = refl
on_not (x ∷ xs) s h =
    ⊎_elim (λ t. absurd (h 0 (omega arith) (eqb-true x s t))) (λ f. rw f (on_not xs s (λ k lt. h (suc k) (omega (arith, lt))))) (cases_Bool (x == s))

pub on_at : (xs : List ℕ) (s k : ℕ) → k < length xs → get_or xs k 0 ≡ s → is_on xs s ≡ true
on_at [] s k lt e = absurd (omega (arith, lt))
on_at (x ∷ xs) s zero lt e = rw (eq-eqb x s e) refl
on_at (x ∷ xs) s (suc k) lt e =
    ⊎_elim (λ t. rw t refl) (λ f. rw f (on_at xs s k (omega (arith, lt)) e)) (cases_Bool (x == s))

-- ---- what comes after

pub after_not : (xs : List ℕ) (s : ℕ) → ((k : ℕ) → suc k < length xs → get_or xs (suc k) 0 ≢ s) → after_on xs s ≡ None
after_not [] s h = refl
after_not (x ∷ []) s h = refl
after_not (x ∷ y ∷ xs) s h =
    ⊎_elim (λ t. absurd (h 0 (omega arith) (eqb-true y s t))) (λ f. rw f (after_not (y ∷ xs) s (λ k lt. h (suc k) (omega (arith, lt)))))
    (cases_Bool (y == s))

pub after_at : (xs : List ℕ) (s j : ℕ) → suc j < length xs → get_or xs (suc j) 0 ≡ s → ((k : ℕ) → k < j → get_or xs (suc k) 0 ≢ s)
    → after_on xs s ≡ Some (get_or xs j 0)
after_at [] s j lt e h = absurd (omega (arith, lt))
after_at (x ∷ []) s j lt e h = absurd (omega (arith, lt))
after_at (x ∷ y ∷ xs) s zero lt e h = rw (eq-eqb y s e) refl
after_at (x ∷ y ∷ xs) s (suc j) lt e h =
    ⊎_elim (λ t. absurd (h 0 (omega arith) (eqb-true y s t)))
    (λ f. rw f (after_at (y ∷ xs) s j (omega (arith, lt)) e (λ k l. h (suc k) (omega (arith, l))))) (cases_Bool (y == s))

-- ---- which is met first

pub met_not : (chain ss : List ℕ) → ((k : ℕ) → k < length ss → is_on chain (get_or ss k 0) ≡ false) → fork_index chain ss ≡ None
met_not chain [] h = refl
met_not chain (s ∷ ss) h = rw (h 0 (omega arith)) (ap (option_map (λ k. suc k)) (met_not chain ss (λ k lt. h (suc k) (omega (arith, lt)))))

pub met_here : (chain ss : List ℕ) (k : ℕ) → k < length ss → is_on chain (get_or ss k 0) ≡ true
    → ((j : ℕ) → j < k → is_on chain (get_or ss j 0) ≡ false) → fork_index chain ss ≡ Some k
met_here chain [] k lt e h = absurd (omega (arith, lt))
met_here chain (s ∷ ss) zero lt e h = rw e refl
met_here chain (s ∷ ss) (suc k) lt e h =
    rw (h 0 (omega arith)) (ap (option_map (λ j. suc j)) (met_here chain ss k (omega (arith, lt)) e (λ j l. h (suc j) (omega (arith, l)))))

-- ---- rising serials

-- each is above those before it
rise_apart : (n : ℕ) (xs : List ℕ) → IsRising n xs → (i j : ℕ) → i < length xs → j < length xs → get_or xs i 0 ≡ get_or xs j 0 → i ≡ j
rise_apart n xs r i j a b e = grind (arith, r.up i j, r.up j i)

-- with the newest first
turned : (xs : List ℕ) (k : ℕ) → k < length xs → get_or (reverse xs) k 0 ≡ get_or xs (length xs - 1 - k) 0
turned xs k lt = get_or-reverse xs k 0 lt

pub found_on : (xs : List ℕ) (s i : ℕ) → i < length xs → get_or xs i 0 ≡ s → is_on (reverse xs) s ≡ true
found_on xs s i lt e =
    let long = length-reverse xs in
    let at : get_or (reverse xs) (length xs - 1 - i) 0 ≡ get_or xs (length xs - 1 - (length xs - 1 - i)) 0 =
    turned xs (length xs - 1 - i) (omega (arith, lt)) in
    let back : length xs - 1 - (length xs - 1 - i) ≡ i = omega (arith, lt) in
    on_at (reverse xs) s (length xs - 1 - i) (omega (arith, lt, long)) (at ∙ (ap (λ k. get_or xs k 0) back ∙ e))

pub not_found_on : (xs : List ℕ) (s : ℕ) → ((k : ℕ) → k < length xs → get_or xs k 0 ≢ s) → is_on (reverse xs) s ≡ false
not_found_on xs s h =
    let long = length-reverse xs in
    on_not (reverse xs) s (λ k lt e. let lt' : k < length xs = omega (arith, lt, long) in
    h (length xs - 1 - k) (omega (arith, lt')) (sym (turned xs k lt') ∙ e))

-- the one behind an element comes after it
pub after_found : (n : ℕ) (xs : List ℕ) (s i : ℕ) → IsRising n xs → suc i < length xs → get_or xs i 0 ≡ s
    → after_on (reverse xs) s ≡ Some (get_or xs (suc i) 0)
after_found n xs s i r lt e =
    let long = length-reverse xs in
    let j = length xs - 2 - i in
    let here : length xs - 1 - suc j ≡ i = omega (arith, lt) in
    let next : length xs - 1 - j ≡ suc i = omega (arith, lt) in
    let at : get_or (reverse xs) (suc j) 0 ≡ s = turned xs (suc j) (omega (arith, lt)) ∙ (ap (λ k. get_or xs k 0) here ∙ e) in
    after_at (reverse xs) s j (omega (arith, lt, long)) at
    (λ k l same.
    let same' : get_or xs (length xs - 1 - suc k) 0 ≡ get_or xs i 0 = sym (turned xs (suc k) (omega (arith, lt, l))) ∙ (same ∙ sym e) in
    let one = rise_apart n xs r (length xs - 1 - suc k) i (omega (arith, lt, l)) (omega (arith, lt)) same' in
    omega (arith, one, lt, l))
    ∙ ap (λ x. Some x) (turned xs j (omega (arith, lt)) ∙ ap (λ k. get_or xs k 0) next)

pub after_last : (n : ℕ) (xs : List ℕ) (s i : ℕ) → IsRising n xs → suc i ≡ length xs → get_or xs i 0 ≡ s → after_on (reverse xs) s ≡ None
after_last n xs s i r last e =
    let long = length-reverse xs in
    after_not (reverse xs) s
    (λ k lt same.
    let same' : get_or xs (length xs - 1 - suc k) 0 ≡ get_or xs i 0 = sym (turned xs (suc k) (omega (arith, lt, long))) ∙ (same ∙ sym e) in
    let one = rise_apart n xs r (length xs - 1 - suc k) i (omega (arith, lt, long)) (omega (arith, last)) same' in
    omega (arith, one, last, lt, long))

pub after_none : (xs : List ℕ) (s : ℕ) → is_on (reverse xs) s ≡ false → after_on (reverse xs) s ≡ None
after_none xs s off = by (reverse xs) off
  where
    by : (ys : List ℕ) → is_on ys s ≡ false → after_on ys s ≡ None
    by ys off = after_not ys s (λ k lt e. false≢true (sym off ∙ on_at ys s (suc k) lt e))

-- ---- one more, and fewer

pub rising_push : (n : ℕ) (xs : List ℕ) → IsRising n xs → IsRising (suc n) (xs ++ suc n ∷ [])
rising_push n xs r =
    let long = length_push xs (suc n) in
    let old : (i : ℕ) → i < length xs → get_or (xs ++ suc n ∷ []) i 0 ≡ get_or xs i 0 = λ i lt. get_or_append_left xs (suc n ∷ []) 0 i lt in
    let new : get_or (xs ++ suc n ∷ []) (length xs) 0 ≡ suc n = get_or_push xs (suc n) 0 (length xs) refl in
    record {
      up = λ i j lt within. up i j lt within;
      most = λ i within. most i within;
    }
  where
    at : (i : ℕ) → i < length (xs ++ suc n ∷ []) → ((i < length xs) × (get_or (xs ++ suc n ∷ []) i 0 ≡ get_or xs i 0))
        ⊎ ((i ≡ length xs) × (get_or (xs ++ suc n ∷ []) i 0 ≡ suc n))
    at i within =
        let long = length_push xs (suc n) in
        ⊎_elim
        (λ lt. inl (lt, get_or_append_left xs (suc n ∷ []) 0 i lt))
        (λ ge. let same : i ≡ length xs = omega (arith, ge, long, within) in inr (same, get_or_push xs (suc n) 0 i (sym same)))
        (cases_lt i (length xs))

    up : (i j : ℕ) → i < j → j < length (xs ++ suc n ∷ []) → get_or (xs ++ suc n ∷ []) i 0 < get_or (xs ++ suc n ∷ []) j 0
    up i j lt within =
        let long = length_push xs (suc n) in
        let below : i < length xs = omega (arith, lt, within, long) in
        let a = get_or_append_left xs (suc n ∷ []) 0 i below in
        let m = r.most i below in
        ⊎_elim
        (λ b. let u = r.up i j lt b.0 in let e = b.1 in omega (arith, a, e, u))
        (λ b. let e = b.1 in omega (arith, a, e, m))
        (at j within)

    most : (i : ℕ) → i < length (xs ++ suc n ∷ []) → get_or (xs ++ suc n ∷ []) i 0 ≤ suc n
    most i within = ⊎_elim (λ b. let e = b.1 in let m = r.most i b.0 in omega (arith, e, m)) (λ b. let e = b.1 in omega (arith, e)) (at i within)

pub rising_take : (n k : ℕ) (xs : List ℕ) → IsRising n xs → IsRising n (take k xs)
rising_take n k xs r =
    let long = length-take k xs in
    record {
      up = λ i j lt within.
          let a : get_or (take k xs) i 0 ≡ get_or xs i 0 = get_or-take k xs i 0 (omega (arith, long, within, lt)) in
          let b : get_or (take k xs) j 0 ≡ get_or xs j 0 = get_or-take k xs j 0 (omega (arith, long, within)) in
          let u = r.up i j lt (omega (arith, long, within)) in
          omega (arith, a, b, u);
      most = λ i within.
          let a : get_or (take k xs) i 0 ≡ get_or xs i 0 = get_or-take k xs i 0 (omega (arith, long, within)) in
          let m = r.most i (omega (arith, long, within)) in
          omega (arith, a, m);
    }

pub rising_one : IsRising 0 (0 ∷ [])
rising_one = record { up = λ i j lt within. absurd (omega (arith, lt, within)); most = λ i within. one i within }
  where
    one : (i : ℕ) → i < 1 → get_or (0 ∷ []) i 0 ≤ 0
    one zero within = omega arith
    one (suc i) within = absurd (omega (arith, within))

-- of a hundred and one the oldest is let go
pub put_rest : (serial : ℕ) (xs : List ℕ) → length xs ≡ 101 → reverse (drop 1 xs ++ serial ∷ []) ≡ take 101 (serial ∷ reverse xs)
put_rest serial [] e = absurd (omega (arith, e))
put_rest serial (x ∷ xs) e =
    let a : reverse (x ∷ xs) ≡ reverse xs ++ x ∷ [] = reverse-append (x ∷ []) xs in
    let long = length-reverse xs in
    let rest : take 100 (reverse (x ∷ xs)) ≡ reverse xs = ap (take 100) a ∙ take_at (reverse xs) (x ∷ []) 100 (omega (arith, long, e)) in
    reverse-append xs (serial ∷ []) ∙ ap (λ l. serial ∷ l) (sym rest)

pub put_all : (serial : ℕ) (xs : List ℕ) → length xs ≤ 100 → reverse (xs ++ serial ∷ []) ≡ take 101 (serial ∷ reverse xs)
put_all serial xs few =
    let long = length-reverse xs in
    reverse-append xs (serial ∷ []) ∙ ap (λ l. serial ∷ l) (sym (take_all 100 (reverse xs) (omega (arith, long, few))))

-- ---- what a search found

pub place_lost : (n : ℕ) (xs : List ℕ) (s i : ℕ) → IsRising n xs → IsBinarySearchResult (λ y. nat_cmp y s) xs (Err i) → is_on (reverse xs) s ≡ false
place_lost n xs s i r found =
    let rise : (a b : ℕ) → a ≤ b → b < length xs → get_or xs a 0 ≤ get_or xs b 0 =
    λ a b le lt. ⊎_elim (λ less. let u = r.up a b less lt in omega (arith, u)) (λ ge. let same : a ≡ b = omega (arith, le, ge) in
    subst (λ k. get_or xs a 0 ≤ get_or xs k 0) same (omega arith)) (cases_lt a b) in
    let m = searched xs s (Err i) found rise in
    not_found_on xs s (λ k lt e. ⊎_elim (λ less. let u = m.1 k less in omega (arith, u, e)) (λ ge. let u = m.2 k ge lt in
    omega (arith, u, e)) (cases_lt k i))

pub has_is : (xs : List ℕ) (s : ℕ) (r : Option ℕ) → IfSome r (λ i. (i < length xs) × (slice_index xs i ≡ s))
    → (r ≡ None → is_on (reverse xs) s ≡ false) → is_some r ≡ is_on (reverse xs) s
has_is xs s None found lost = sym (lost refl)
has_is xs s (Some i) found lost = sym (found_on xs s i found.0 found.1)

-- ---- a search from the newest on: none of the first k is on the chain

abbrev pub NoneMet : List ℕ → List ℕ → ℕ → Type 0
NoneMet chain ss k = (j : ℕ) → j < k → is_on chain (get_or (reverse ss) j 0) ≡ false

pub met_more : (chain ss : List ℕ) (k : ℕ) → k < length ss → NoneMet chain ss k → is_on chain (get_or ss (length ss - 1 - k) 0) ≡ false
    → NoneMet chain ss (k + 1)
met_more chain ss k lt none one j less =
    ⊎_elim (λ l. none j l) (λ ge. let same : k ≡ j = omega (arith, ge, less) in
    subst (λ i. is_on chain (get_or (reverse ss) i 0) ≡ false) same (ap (is_on chain) (turned ss k lt) ∙ one)) (cases_lt j k)

pub met_found : (chain ss : List ℕ) (k : ℕ) → k < length ss → NoneMet chain ss k → is_on chain (get_or ss (length ss - 1 - k) 0) ≡ true
    → Some k ≡ fork_index chain (reverse ss)
met_found chain ss k lt none on = let long = length-reverse ss in
    sym (met_here chain (reverse ss) k (omega (arith, lt, long)) (ap (is_on chain) (turned ss k lt) ∙ on) none)

pub met_none : (chain ss : List ℕ) (k : ℕ) → length ss ≤ k → NoneMet chain ss k → None ≡ fork_index chain (reverse ss)
met_none chain ss k ge none = let long = length-reverse ss in sym (met_not chain (reverse ss) (λ j lt. none j (omega (arith, lt, long, ge))))

-- what a world begins with
pub kept_new : {A W F : Type 0} (sent : List A) (chain : List ℕ) (f : W → F) (watches : List W) (followers : List F) → sent ≡ [] → chain ≡ 0 ∷ []
    → followers ≡ map f watches → length watches < 2 ^ 32 → IsKept (length sent) chain (length followers)
kept_new sent chain f watches followers none zero' made few =
    let long : length followers ≡ length watches = ap length made ∙ length-map watches f in
    record {
      rises = subst (λ xs. IsRising (length sent) xs) (sym zero') (subst (λ n. IsRising n (0 ∷ [])) (ap length (sym none)) rising_one);
      few = omega (arith, long, few);
    }
