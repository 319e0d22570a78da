-- Lists of entries in ascending order: look-ups, changes, and the same of what they stand for.
use Rattle.std.proofs.Common.{◌≡◌, ◌≢◌, ℕ, ◌<◌, Bool, true, false, cond, List, [], ◌∷◌, ◌++◌, Some, None, refl, sym, ap, ◌∙◌, subst, ap₂, ⊎_elim}
use Rattle.std.proofs.Common.{arith, ne_eqb, eq-eqb}
use Rattle.std.specs.Prelude.{◌==◌, not, nat_lt, option_map}
use Rattle.std.specs.List.{AllByRecursion}
use Rattle.std.specs.BTreeMap.{is_at}
use Rattle.std.specs.Ordering.{nat_cmp}
use Rattle.std.proofs.lemmas.Bool.{cases_Bool, cases_eq, eqb-true, ltb-true}
use Rattle.std.proofs.lemmas.Option.{none-some, same_Some}
use Rattle.output_index.specs.declared.entry.Entry.{Entry}
use Rattle.output_index.specs.Entries.{IsRising, entry_at, changed_at, changed, removed}

-- ---- keys

nat_at : (x y : ℕ) → is_at (nat_cmp x) y ≡ (x == y)
nat_at x y = ⊎_elim (λ t. ⊎_elim (λ e. absurd (omega (arith, ltb-true x y t, eqb-true x y e))) (λ e. rw t (rw e refl)) (cases_Bool (x == y)))
    (λ t. rw t (⊎_elim (λ e. rw e refl) (λ e. rw e refl) (cases_Bool (x == y)))) (cases_Bool (nat_lt x y))

pub at_same : (n : ℕ) → is_at (nat_cmp n) n ≡ true
at_same n = nat_at n n ∙ eq-eqb n n refl

pub at_other : (n k : ℕ) → n ≢ k → is_at (nat_cmp n) k ≡ false
at_other n k h = nat_at n k ∙ ne_eqb n k h

-- ---- look-ups

pub at-here : (n : ℕ) (e : Entry) (es : List (ℕ × Entry)) → entry_at n ((n, e) ∷ es) ≡ Some e
at-here n e es = rw (at_same n) refl

pub at-there : (n : ℕ) (x : ℕ × Entry) (es : List (ℕ × Entry)) → n ≢ x.0 → entry_at n (x ∷ es) ≡ entry_at n es
at-there n x es h = rw (at_other n x.0 h) refl

-- what is found is in the list
pub all_at : (P : ℕ → Entry → Type 0) (n : ℕ) (e : Entry) (es : List (ℕ × Entry)) → AllByRecursion (λ x. P x.0 x.1) es → entry_at n es ≡ Some e
    → P n e
all_at P n e [] h f = absurd (none-some e f)
all_at P n e ((k, d) ∷ es) h f =
    ⊎_elim
    (λ same. subst (λ j. P j e) (sym same) (subst (P k) (same_Some d e (sym (at-here k d es) ∙ subst (λ j. entry_at j ((k, d) ∷ es) ≡ Some e) same f))
    h.0))
    (λ other. all_at P n e es h.1 (sym (at-there n (k, d) es other) ∙ f))
    (cases_eq n k)

-- and what is in the list is found
pub none_at : (n : ℕ) (es : List (ℕ × Entry)) → AllByRecursion (λ x. n ≢ x.0) es → entry_at n es ≡ None
none_at n [] h = refl
none_at n (x ∷ es) h = at-there n x es h.0 ∙ none_at n es h.1

pub below_others : (n : ℕ) (es : List (ℕ × Entry)) → AllByRecursion (λ y. n < y.0) es → AllByRecursion (λ y. n ≢ y.0) es
below_others n [] h = tt
below_others n (y ∷ es) h = ((λ e. absurd (omega (arith, e, h.0))), below_others n es h.1)

pub all_from : (P : ℕ → Entry → Type 0) (es : List (ℕ × Entry)) → IsRising es → ((n : ℕ) (e : Entry) → entry_at n es ≡ Some e → P n e)
    → AllByRecursion (λ x. P x.0 x.1) es
all_from P [] r h = tt
all_from P ((k, d) ∷ es) r h = (
  h k d (at-here k d es),
  all_from P es r.1 (λ n e f. h n e (at-there n (k, d) es
      (λ same. none-some e (sym (none_at k es (below_others k es r.0)) ∙ subst (λ j. entry_at j es ≡ Some e) same f)) ∙ f)),
)

-- ---- changes

pub changed-here : (n : ℕ) (f : Entry → Entry) (k : ℕ) (e : Entry) → k ≡ n → ◌≡◌ {A = ℕ × Entry} (changed_at n f (k, e)) (k, f e)
changed-here n f k e s = rw (eq-eqb k n s) refl

pub changed-there : (n : ℕ) (f : Entry → Entry) (x : ℕ × Entry) → x.0 ≢ n → ◌≡◌ {A = ℕ × Entry} (changed_at n f x) x
changed-there n f x h = rw (ne_eqb x.0 n h) refl

changed-key : (n : ℕ) (f : Entry → Entry) (x : ℕ × Entry) → (changed_at n f x).0 ≡ x.0
changed-key n f x = ⊎_elim (λ t. rw t refl) (λ t. rw t refl) (cases_Bool (x.0 == n))

pub at-changed_same : (n : ℕ) (f : Entry → Entry) (es : List (ℕ × Entry)) → entry_at n (changed n f es) ≡ option_map f (entry_at n es)
at-changed_same n f [] = refl
at-changed_same n f ((k, e) ∷ es) =
    ⊎_elim
    (λ same. ap (λ y. entry_at n (y ∷ changed n f es)) (changed-here n f k e (sym same))
    ∙ (subst (λ j. entry_at n ((j, f e) ∷ changed n f es) ≡ Some (f e)) same (at-here n (f e) (changed n f es))
    ∙ ap (option_map f) (sym (subst (λ j. entry_at n ((j, e) ∷ es) ≡ Some e) same (at-here n e es)))))
    (λ other. at-there n (changed_at n f (k, e)) (changed n f es) (λ s. other (s ∙ changed-key n f (k, e)))
    ∙ (at-changed_same n f es ∙ ap (option_map f) (sym (at-there n (k, e) es other))))
    (cases_eq n k)

pub at-changed_other : (n q : ℕ) (f : Entry → Entry) (es : List (ℕ × Entry)) → q ≢ n → entry_at q (changed n f es) ≡ entry_at q es
at-changed_other n q f [] h = refl
at-changed_other n q f ((k, e) ∷ es) h =
    ⊎_elim
    (λ same. ap (λ y. entry_at q (y ∷ changed n f es)) (changed-there n f (k, e) (λ s. h (same ∙ s)))
    ∙ (subst (λ j. entry_at q ((j, e) ∷ changed n f es) ≡ Some e) same (at-here q e (changed n f es))
    ∙ sym (subst (λ j. entry_at q ((j, e) ∷ es) ≡ Some e) same (at-here q e es))))
    (λ other. at-there q (changed_at n f (k, e)) (changed n f es) (λ s. other (s ∙ changed-key n f (k, e)))
    ∙ (at-changed_other n q f es h ∙ sym (at-there q (k, e) es other)))
    (cases_eq q k)

-- ---- one taken out

pub removed-here : (n : ℕ) (x : ℕ × Entry) (es : List (ℕ × Entry)) → x.0 ≡ n → removed n (x ∷ es) ≡ removed n es
removed-here n x es s = ap (λ b. cond (not b) (x ∷ removed n es) (removed n es)) (eq-eqb x.0 n s)

pub removed-there : (n : ℕ) (x : ℕ × Entry) (es : List (ℕ × Entry)) → x.0 ≢ n → removed n (x ∷ es) ≡ x ∷ removed n es
removed-there n x es h = ap (λ b. cond (not b) (x ∷ removed n es) (removed n es)) (ne_eqb x.0 n h)

pub removed-none : (n : ℕ) (es : List (ℕ × Entry)) → AllByRecursion (λ y. y.0 ≢ n) es → removed n es ≡ es
removed-none n [] h = refl
removed-none n (x ∷ es) h = removed-there n x es h.0 ∙ ap (λ xs. x ∷ xs) (removed-none n es h.1)

pub at-removed_same : (n : ℕ) (es : List (ℕ × Entry)) → entry_at n (removed n es) ≡ None
at-removed_same n [] = refl
at-removed_same n (x ∷ es) =
    ⊎_elim
    (λ same. ap (entry_at n) (removed-here n x es (sym same)) ∙ at-removed_same n es)
    (λ other. ap (entry_at n) (removed-there n x es (λ s. other (sym s))) ∙ (at-there n x (removed n es) other ∙ at-removed_same n es))
    (cases_eq n x.0)

pub at-removed_other : (n q : ℕ) (es : List (ℕ × Entry)) → q ≢ n → entry_at q (removed n es) ≡ entry_at q es
at-removed_other n q [] h = refl
at-removed_other n q ((k, e) ∷ es) h =
    ⊎_elim
    (λ same. ap (entry_at q) (removed-here n (k, e) es (sym same)) ∙ (at-removed_other n q es h ∙ sym (at-there q (k, e) es (λ s. h (s ∙ sym same)))))
    (λ other. ap (entry_at q) (removed-there n (k, e) es (λ s. other (sym s))) ∙
    ⊎_elim
    (λ here. subst (λ j. entry_at q ((j, e) ∷ removed n es) ≡ Some e) here (at-here q e (removed n es))
    ∙ sym (subst (λ j. entry_at q ((j, e) ∷ es) ≡ Some e) here (at-here q e es)))
    (λ there. at-there q (k, e) (removed n es) there ∙ (at-removed_other n q es h ∙ sym (at-there q (k, e) es there)))
    (cases_eq q k))
    (cases_eq n k)

-- ---- one more

pub at-added_same : (n : ℕ) (e : Entry) (es : List (ℕ × Entry)) → AllByRecursion (λ x. x.0 < n) es → entry_at n (es ++ (n, e) ∷ []) ≡ Some e
at-added_same n e [] h = at-here n e []
at-added_same n e (x ∷ es) h = at-there n x (es ++ (n, e) ∷ []) (λ s. absurd (omega (arith, s, h.0))) ∙ at-added_same n e es h.1

pub at-added_other : (n q : ℕ) (e : Entry) (es : List (ℕ × Entry)) → q ≢ n → entry_at q (es ++ (n, e) ∷ []) ≡ entry_at q es
at-added_other n q e [] h = at-there q (n, e) [] h
at-added_other n q e ((k, d) ∷ es) h =
    ⊎_elim
    (λ here. subst (λ j. entry_at q ((j, d) ∷ es ++ (n, e) ∷ []) ≡ Some d) here (at-here q d (es ++ (n, e) ∷ []))
    ∙ sym (subst (λ j. entry_at q ((j, d) ∷ es) ≡ Some d) here (at-here q d es)))
    (λ there. at-there q (k, d) (es ++ (n, e) ∷ []) there ∙ (at-added_other n q e es h ∙ sym (at-there q (k, d) es there)))
    (cases_eq q k)

-- ---- order

pub rising-changed : (n : ℕ) (f : Entry → Entry) (es : List (ℕ × Entry)) → IsRising es → IsRising (changed n f es)
rising-changed n f [] r = tt
rising-changed n f (x ∷ es) r = (below x.0 (changed-key n f x) es r.0, rising-changed n f es r.1)
  where
    below : (k : ℕ) → (changed_at n f x).0 ≡ k → (es : List (ℕ × Entry)) → AllByRecursion (λ y. k < y.0) es
        → AllByRecursion (λ y. (changed_at n f x).0 < y.0) (changed n f es)
    below k s [] h = tt
    below k s (y ∷ es) h = (let t = changed-key n f y in omega (arith, s, t, h.0), below k s es h.1)

pub all-removed : (P : ℕ × Entry → Type 0) (n : ℕ) (es : List (ℕ × Entry)) → AllByRecursion P es → AllByRecursion P (removed n es)
all-removed P n [] h = tt
all-removed P n (x ∷ es) h = by_case (not (x.0 == n)) (all-removed P n es h.1)
  where
    by_case : (b : Bool) → AllByRecursion P (removed n es) → AllByRecursion P (cond b (x ∷ removed n es) (removed n es))
    by_case true k = (h.0, k)
    by_case false k = k

pub rising-removed : (n : ℕ) (es : List (ℕ × Entry)) → IsRising es → IsRising (removed n es)
rising-removed n [] r = tt
rising-removed n (x ∷ es) r = by_case (not (x.0 == n)) (all-removed (λ y. x.0 < y.0) n es r.0) (rising-removed n es r.1)
  where
    by_case : (b : Bool) → AllByRecursion (λ y. x.0 < y.0) (removed n es) → IsRising (removed n es)
        → IsRising (cond b (x ∷ removed n es) (removed n es))
    by_case true h k = (h, k)
    by_case false h k = k

pub rising-added : (n : ℕ) (e : Entry) (es : List (ℕ × Entry)) → AllByRecursion (λ x. x.0 < n) es → IsRising es → IsRising (es ++ (n, e) ∷ [])
rising-added n e [] h r = (tt, tt)
rising-added n e (x ∷ es) h r = (below x.0 h.0 es r.0, rising-added n e es h.1 r.1)
  where
    below : (k : ℕ) → k < n → (es : List (ℕ × Entry)) → AllByRecursion (λ y. k < y.0) es → AllByRecursion (λ y. k < y.0) (es ++ (n, e) ∷ [])
    below k l [] h = (l, tt)
    below k l (y ∷ es) h = (h.0, below k l es h.1)

-- one more that is taken out again
pub removed-added : (n : ℕ) (e : Entry) (es : List (ℕ × Entry)) → AllByRecursion (λ x. x.0 < n) es → removed n (es ++ (n, e) ∷ []) ≡ es
removed-added n e [] h = removed-here n (n, e) [] refl
removed-added n e (x ∷ es) h = removed-there n x (es ++ (n, e) ∷ []) (λ s. absurd (omega (arith, s, h.0)))
    ∙ ap (λ xs. x ∷ xs) (removed-added n e es h.1)

-- one more that is changed then
pub changed-added : (n : ℕ) (f : Entry → Entry) (e : Entry) (es : List (ℕ × Entry)) → AllByRecursion (λ x. x.0 < n) es
    → changed n f (es ++ (n, e) ∷ []) ≡ es ++ (n, f e) ∷ []
changed-added n f e [] h = ap (λ (y : ℕ × Entry). y ∷ []) (changed-here n f n e refl)
changed-added n f e (x ∷ es) h = ap₂ (λ (y : ℕ × Entry) (ys : List (ℕ × Entry)). y ∷ ys) (changed-there n f x (λ s. absurd (omega (arith, s, h.0))))
    (changed-added n f e es h.1)
