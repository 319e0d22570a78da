-- Entries that stand each at its number.
use Rattle.std.proofs.Common.{◌≡◌, ◌≢◌, ℕ, zero, suc, ◌+◌, ◌<◌, ◌≤◌, List, [], ◌∷◌, ◌++◌, Option, Some, None, set, get_or, length, refl, sym}
use Rattle.std.proofs.Common.{ap, ◌∙◌, subst, ap₂, arith}
use Rattle.std.proofs.lemmas.Bool.{false≢true}
use Rattle.std.proofs.lemmas.Option.{none-some, same_Some, slice_get_within, slice_get_read}
use Rattle.std.specs.Prelude.{slice_get, IsSome}
use Rattle.std.specs.List.{AllByRecursion}
use Rattle.output_index.specs.declared.entry.Entry.{Entry}
use Rattle.output_index.specs.Entries.{entry_at, changed, removed, entries_from}
use Rattle.output_index.proofs.EntryLists.{at-here, at-there, none_at, below_others, changed-here, changed-there, removed-here, removed-there}
use Rattle.output_index.proofs.EntryLists.{removed-none}

-- what stands there, if anything does
abbrev pub standing : Option (Option Entry) → Option Entry
standing None = None
standing (Some x) = x

-- none has a number below the first
from-above : (k n : ℕ) (xs : List (Option Entry)) → k < n → AllByRecursion (λ y. k < y.0) (entries_from n xs)
from-above k n [] l = tt
from-above k n (None ∷ xs) l = from-above k (suc n) xs (omega (arith, l))
from-above k n (Some e ∷ xs) l = (l, from-above k (suc n) xs (omega (arith, l)))

apart : (k : ℕ) (es : List (ℕ × Entry)) → AllByRecursion (λ y. k < y.0) es → AllByRecursion (λ y. y.0 ≢ k) es
apart k [] h = tt
apart k (y ∷ es) h = ((λ s. absurd (let l = h.0 in omega (arith, l, s))), apart k es h.1)

at-from : (k n : ℕ) (xs : List (Option Entry)) → entry_at (k + n) (entries_from k xs) ≡ standing (slice_get xs n)
at-from k n [] = refl
at-from k zero (None ∷ xs) = ap (λ j. entry_at j (entries_from (suc k) xs)) (omega arith)
    ∙ none_at k (entries_from (suc k) xs) (below_others k (entries_from (suc k) xs) (from-above k (suc k) xs (omega arith)))
at-from k zero (Some e ∷ xs) = ap (λ j. entry_at j ((k, e) ∷ entries_from (suc k) xs)) (omega arith) ∙ at-here k e (entries_from (suc k) xs)
at-from k (suc n) (None ∷ xs) = ap (λ j. entry_at j (entries_from (suc k) xs)) (omega arith) ∙ at-from (suc k) n xs
at-from k (suc n) (Some e ∷ xs) =
    at-there (k + suc n) (k, e) (entries_from (suc k) xs) (λ s. absurd (omega (arith, s)))
    ∙ (ap (λ j. entry_at j (entries_from (suc k) xs)) (omega arith) ∙ at-from (suc k) n xs)

pub at-zero : (n : ℕ) (xs : List (Option Entry)) → entry_at n (entries_from 0 xs) ≡ standing (slice_get xs n)
at-zero n xs = ap (λ j. entry_at j (entries_from 0 xs)) (omega arith) ∙ at-from 0 n xs

-- an entry that is found stands there
pub stands-at : (n : ℕ) (e : Entry) (xs : List (Option Entry)) → entry_at n (entries_from 0 xs) ≡ Some e → slice_get xs n ≡ Some (Some e)
stands-at n e xs at = by_case (slice_get xs n) (sym (at-zero n xs) ∙ at)
  where
    by_case : (x : Option (Option Entry)) → standing x ≡ Some e → x ≡ Some (Some e)
    by_case None h = absurd (none-some e h)
    by_case (Some x) h = ap Some h

pub stands-within : (n : ℕ) (xs : List (Option Entry)) → IsSome (entry_at n (entries_from 0 xs)) → n < length xs
stands-within n xs h = by_case (entry_at n (entries_from 0 xs)) refl h
  where
    by_case : (x : Option Entry) → entry_at n (entries_from 0 xs) ≡ x → IsSome x → n < length xs
    by_case None q h = absurd (false≢true h)
    by_case (Some e) q h = slice_get_within xs n (Some e) (stands-at n e xs q)

changed_none : (n : ℕ) (f : Entry → Entry) (es : List (ℕ × Entry)) → AllByRecursion (λ y. y.0 ≢ n) es → changed n f es ≡ es
changed_none n f [] h = refl
changed_none n f (x ∷ es) h = ap (λ y. y ∷ changed n f es) (changed-there n f x h.0) ∙ ap (λ ys. x ∷ ys) (changed_none n f es h.1)

-- another entry at a place
set-from : (k n : ℕ) (f : Entry → Entry) (e : Entry) (xs : List (Option Entry)) → slice_get xs n ≡ Some (Some e)
    → entries_from k (set xs n (Some (f e))) ≡ changed (k + n) f (entries_from k xs)
set-from k n f e [] at = absurd (none-some (Some e) at)
set-from k zero f e (None ∷ xs) at = absurd (none-some e (same_Some None (Some e) at))
set-from k zero f e (Some d ∷ xs) at =
    let is : d ≡ e = same_Some d e (same_Some (Some d) (Some e) at) in
    let n = k + zero in
    ap₂ (λ (y : ℕ × Entry) (ys : List (ℕ × Entry)). y ∷ ys)
    (ap (λ x. let y : ℕ × Entry = (k, f x) in y) (sym is) ∙ sym (changed-here n f k d (omega arith)))
    (sym (changed_none n f (entries_from (suc k) xs) (apart n (entries_from (suc k) xs) (from-above n (suc k) xs (omega arith)))))
set-from k (suc n) f e (None ∷ xs) at = set-from (suc k) n f e xs at ∙ ap (λ j. changed j f (entries_from (suc k) xs)) (omega arith)
set-from k (suc n) f e (Some d ∷ xs) at =
    ap₂ (λ (y : ℕ × Entry) (ys : List (ℕ × Entry)). y ∷ ys)
    (sym (changed-there (k + suc n) f (k, d) (λ s. absurd (omega (arith, s)))))
    (set-from (suc k) n f e xs at ∙ ap (λ j. changed j f (entries_from (suc k) xs)) (omega arith))

pub set-there : (n : ℕ) (f : Entry → Entry) (e : Entry) (xs : List (Option Entry)) → IsSome (entry_at n (entries_from 0 xs))
    → Some e ≡ get_or xs n (Some e) → entries_from 0 (set xs n (Some (f e))) ≡ changed n f (entries_from 0 xs)
set-there n f e xs h r = set-from 0 n f e xs (slice_get_read xs (length xs) n (Some e) refl (stands-within n xs h) r)
    ∙ ap (λ j. changed j f (entries_from 0 xs)) (omega arith)

-- nothing there any more
cleared-from : (k n : ℕ) (xs : List (Option Entry)) → entries_from k (set xs n None) ≡ removed (k + n) (entries_from k xs)
cleared-from k n [] = refl
cleared-from k zero (x ∷ xs) = sym (by_case x ∙ removed-none (k + zero) es (apart (k + zero) es (from-above (k + zero) (suc k) xs (omega arith))))
  where
    es : List (ℕ × Entry)
    es = entries_from (suc k) xs

    by_case : (x : Option Entry) → removed (k + zero) (entries_from k (x ∷ xs)) ≡ removed (k + zero) es
    by_case None = refl
    by_case (Some d) = removed-here (k + zero) (k, d) es (omega arith)
cleared-from k (suc n) (None ∷ xs) = cleared-from (suc k) n xs ∙ ap (λ j. removed j (entries_from (suc k) xs)) (omega arith)
cleared-from k (suc n) (Some d ∷ xs) =
    ap (λ es. (k, d) ∷ es) (cleared-from (suc k) n xs ∙ ap (λ j. removed j (entries_from (suc k) xs)) (omega arith))
    ∙ sym (removed-there (k + suc n) (k, d) (entries_from (suc k) xs) (λ s. absurd (omega (arith, s))))

pub cleared-there : (n : ℕ) (xs : List (Option Entry)) → entries_from 0 (set xs n None) ≡ removed n (entries_from 0 xs)
cleared-there n xs = cleared-from 0 n xs ∙ ap (λ j. removed j (entries_from 0 xs)) (omega arith)

-- where all numbers are below the first there is none
nothing-below : (k n : ℕ) (xs : List (Option Entry)) → n ≤ k → AllByRecursion (λ x. x.0 < n) (entries_from k xs) → [] ≡ entries_from k xs
nothing-below k n [] l h = refl
nothing-below k n (None ∷ xs) l h = nothing-below (suc k) n xs (omega (arith, l)) h
nothing-below k n (Some d ∷ xs) l h = absurd (let b = h.0 in omega (arith, l, b))

-- one more behind all of them
set-last : (k n : ℕ) (e : Entry) (xs : List (Option Entry)) → n < length xs → AllByRecursion (λ x. x.0 < k + n) (entries_from k xs)
    → entries_from k (set xs n (Some e)) ≡ entries_from k xs ++ (k + n, e) ∷ []
set-last k n e [] within h = absurd (omega (arith, within))
set-last k zero e (Some d ∷ xs) within h = absurd (let b = h.0 in omega (arith, b))
set-last k zero e (None ∷ xs) within h =
    let none : [] ≡ entries_from (suc k) xs = nothing-below (suc k) (k + 0) xs (omega arith) h in
    let at : k ≡ k + 0 = omega arith in
    subst (λ (es : List (ℕ × Entry)). (k, e) ∷ es ≡ es ++ (k + 0, e) ∷ []) none (ap (λ j. let y : List (ℕ × Entry) = (j, e) ∷ [] in y) at)
set-last k (suc n) e (None ∷ xs) within h =
    let at : suc k + n ≡ k + suc n = omega arith in
    set-last (suc k) n e xs (omega (arith, within)) (subst (λ j. AllByRecursion (λ x. x.0 < j) (entries_from (suc k) xs)) (sym at) h)
    ∙ ap (λ j. entries_from (suc k) xs ++ (j, e) ∷ []) at
set-last k (suc n) e (Some d ∷ xs) within h =
    let at : suc k + n ≡ k + suc n = omega arith in
    ap (λ es. (k, d) ∷ es)
    (set-last (suc k) n e xs (omega (arith, within)) (subst (λ j. AllByRecursion (λ x. x.0 < j) (entries_from (suc k) xs)) (sym at) h.1)
    ∙ ap (λ j. entries_from (suc k) xs ++ (j, e) ∷ []) at)

pub last-there : (n : ℕ) (e : Entry) (xs : List (Option Entry)) → n < length xs → AllByRecursion (λ x. x.0 < n) (entries_from 0 xs)
    → entries_from 0 (set xs n (Some e)) ≡ entries_from 0 xs ++ (n, e) ∷ []
last-there n e xs within h =
    let at : n ≡ 0 + n = omega arith in
    set-last 0 n e xs within (subst (λ j. AllByRecursion (λ x. x.0 < j) (entries_from 0 xs)) at h)
    ∙ ap (λ j. entries_from 0 xs ++ (j, e) ∷ []) (sym at)
