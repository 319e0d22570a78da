-- A page: entries that lie side by side, and where each stands.
use Rattle.std.proofs.Common.{◌≡◌, ℕ, zero, suc, ◌+◌, ◌<◌, ◌≤◌, Bool, true, false, List, [], ◌∷◌, ◌++◌, Some, None, set, get_or, take, length}
use Rattle.std.proofs.Common.{refl, sym, ap, ◌∙◌, subst, ⊎_elim, arith}
use Rattle.std.specs.Prelude.{IsSome, option_map}
use Rattle.std.specs.List.{remove}
use Rattle.std.proofs.lemmas.Bool.{false≢true, cases_Bool}
use Rattle.std.proofs.lemmas.Option.{none-some}
use Rattle.output_index.specs.declared.entry.Entry.{Entry}
use Rattle.output_index.specs.NumberSet.{count}
use Rattle.output_index.specs.Pages.{laid, entry_in}

pub laid-len : (flags : List Bool) (es : List Entry) → length (laid flags es) ≡ length flags
laid-len [] es = refl
laid-len (false ∷ flags) es = ap suc (laid-len flags es)
laid-len (true ∷ flags) [] = ap suc (laid-len flags [])
laid-len (true ∷ flags) (e ∷ es) = ap suc (laid-len flags es)

-- nothing stands at a number that is not in the set
pub laid_none : (flags : List Bool) (es : List Entry) (i : ℕ) → get_or flags i false ≡ false → entry_in (laid flags es) i ≡ None
laid_none [] es i h = refl
laid_none (false ∷ flags) es zero h = refl
laid_none (false ∷ flags) es (suc i) h = laid_none flags es i h
laid_none (true ∷ flags) es zero h = absurd (false≢true (sym h))
laid_none (true ∷ flags) [] (suc i) h = laid_none flags [] i h
laid_none (true ∷ flags) (e ∷ es) (suc i) h = laid_none flags es i h

-- so what stands somewhere is in the set
pub laid_some : (flags : List Bool) (es : List Entry) (i : ℕ) → IsSome (entry_in (laid flags es) i) → get_or flags i false ≡ true
laid_some flags es i some =
    ⊎_elim (λ t. t) (λ f. absurd (false≢true (subst IsSome (laid_none flags es i f) some))) (cases_Bool (get_or flags i false))

-- an entry is found by counting the numbers of the set below its own
pub laid_within : (flags : List Bool) (i : ℕ) (n : ℕ) → get_or flags i false ≡ true → n ≡ count flags → count (take i flags) < n
laid_within [] i n h full = absurd (false≢true h)
laid_within (false ∷ flags) zero n h full = absurd (false≢true h)
laid_within (true ∷ flags) zero n h full = omega (arith, full)
laid_within (false ∷ flags) (suc i) n h full = laid_within flags i n h full
laid_within (true ∷ flags) (suc i) n h full = let r = laid_within flags i (count flags) h refl in omega (arith, r, full)

pub laid_held : (flags : List Bool) (es : List Entry) (i : ℕ) (d : Entry) → get_or flags i false ≡ true → length es ≡ count flags
    → entry_in (laid flags es) i ≡ Some (get_or es (count (take i flags)) d)
laid_held [] es i d h full = absurd (false≢true h)
laid_held (false ∷ flags) es zero d h full = absurd (false≢true h)
laid_held (true ∷ flags) [] i d h full = absurd (omega (arith, full))
laid_held (true ∷ flags) (e ∷ es) zero d h full = refl
laid_held (false ∷ flags) es (suc i) d h full = laid_held flags es i d h full
laid_held (true ∷ flags) (e ∷ es) (suc i) d h full = laid_held flags es i d h (omega (arith, full))

-- one entry is changed
pub laid_changed : (flags : List Bool) (es : List Entry) (i : ℕ) (e : Entry) → get_or flags i false ≡ true → length es ≡ count flags
    → laid flags (set es (count (take i flags)) e) ≡ set (laid flags es) i (Some e)
laid_changed [] es i e h full = absurd (false≢true h)
laid_changed (false ∷ flags) es zero e h full = absurd (false≢true h)
laid_changed (true ∷ flags) [] i e h full = absurd (omega (arith, full))
laid_changed (true ∷ flags) (d ∷ es) zero e h full = refl
laid_changed (false ∷ flags) es (suc i) e h full = ap (λ xs. None ∷ xs) (laid_changed flags es i e h full)
laid_changed (true ∷ flags) (d ∷ es) (suc i) e h full = ap (λ xs. Some d ∷ xs) (laid_changed flags es i e h (omega (arith, full)))

pub laid_mapped : (f : Entry → Entry) (flags : List Bool) (es : List Entry) (i : ℕ) (old : Entry) → get_or flags i false ≡ true
    → length es ≡ count flags → old ≡ get_or es (count (take i flags)) old
    → laid flags (set es (count (take i flags)) (f old)) ≡ set (laid flags es) i (option_map f (entry_in (laid flags es) i))
laid_mapped f flags es i old h full is =
    laid_changed flags es i (f old) h full
    ∙ ap (λ x. set (laid flags es) i x) (sym (ap (option_map f) (laid_held flags es i old h full ∙ ap Some (sym is))))

-- one is taken out
pub laid_less : (flags : List Bool) (es : List Entry) (i : ℕ) → get_or flags i false ≡ true → length es ≡ count flags
    → laid (set flags i false) (remove es (count (take i flags))) ≡ set (laid flags es) i None
laid_less [] es i h full = absurd (false≢true h)
laid_less (false ∷ flags) es zero h full = absurd (false≢true h)
laid_less (true ∷ flags) [] i h full = absurd (omega (arith, full))
laid_less (true ∷ flags) (d ∷ es) zero h full = refl
laid_less (false ∷ flags) es (suc i) h full = ap (λ xs. None ∷ xs) (laid_less flags es i h full)
laid_less (true ∷ flags) (d ∷ es) (suc i) h full = ap (λ xs. Some d ∷ xs) (laid_less flags es i h (omega (arith, full)))

pub count_less : (flags : List Bool) (i : ℕ) → get_or flags i false ≡ true → count (set flags i false) + 1 ≡ count flags
count_less [] i h = absurd (false≢true h)
count_less (false ∷ flags) zero h = absurd (false≢true h)
count_less (true ∷ flags) zero h = omega arith
count_less (false ∷ flags) (suc i) h = count_less flags i h
count_less (true ∷ flags) (suc i) h = let r = count_less flags i h in omega (arith, r)

-- one comes behind all others
laid_all_none : (flags : List Bool) (es : List Entry) → ((j : ℕ) → entry_in (laid flags es) j ≡ None) → length es ≡ count flags → es ≡ []
laid_all_none flags [] none full = refl
laid_all_none [] (e ∷ es) none full = absurd (omega (arith, full))
laid_all_none (false ∷ flags) (e ∷ es) none full = laid_all_none flags (e ∷ es) (λ j. none (suc j)) full
laid_all_none (true ∷ flags) (e ∷ es) none full = absurd (none-some e (sym (none 0)))

pub laid_more : (flags : List Bool) (es : List Entry) (i : ℕ) (e : Entry) → length es ≡ count flags → i < length flags
    → ((j : ℕ) → i ≤ j → entry_in (laid flags es) j ≡ None) → laid (set flags i true) (es ++ e ∷ []) ≡ set (laid flags es) i (Some e)
laid_more [] es i e full lt none = absurd (omega (arith, lt))
laid_more (true ∷ flags) [] i e full lt none = absurd (omega (arith, full))
laid_more (true ∷ flags) (d ∷ es) zero e full lt none = absurd (none-some d (sym (none 0 (omega arith))))
laid_more (false ∷ flags) es zero e full lt none =
    subst (λ xs. laid (true ∷ flags) (xs ++ e ∷ []) ≡ Some e ∷ laid flags xs)
    (sym (laid_all_none flags es (λ j. none (suc j) (omega arith)) full)) refl
laid_more (false ∷ flags) es (suc i) e full lt none =
    ap (λ xs. None ∷ xs) (laid_more flags es i e full (omega (arith, lt)) (λ j le. none (suc j) (omega (arith, le))))
laid_more (true ∷ flags) (d ∷ es) (suc i) e full lt none =
    ap (λ xs. Some d ∷ xs) (laid_more flags es i e (omega (arith, full)) (omega (arith, lt)) (λ j le. none (suc j) (omega (arith, le))))

-- where nothing stands nothing is in the set
pub laid_free : (flags : List Bool) (es : List Entry) (i : ℕ) → length es ≡ count flags → entry_in (laid flags es) i ≡ None
    → get_or flags i false ≡ false
laid_free [] es i full none = refl
laid_free (false ∷ flags) es zero full none = refl
laid_free (true ∷ flags) [] i full none = absurd (omega (arith, full))
laid_free (true ∷ flags) (e ∷ es) zero full none = absurd (none-some e (sym none))
laid_free (false ∷ flags) es (suc i) full none = laid_free flags es i full none
laid_free (true ∷ flags) (e ∷ es) (suc i) full none = laid_free flags es i (omega (arith, full)) none

pub count_more : (flags : List Bool) (i : ℕ) → get_or flags i false ≡ false → i < length flags → count (set flags i true) ≡ count flags + 1
count_more [] i h lt = absurd (omega (arith, lt))
count_more (true ∷ flags) zero h lt = absurd (false≢true (sym h))
count_more (false ∷ flags) zero h lt = omega arith
count_more (false ∷ flags) (suc i) h lt = count_more flags i h (omega (arith, lt))
count_more (true ∷ flags) (suc i) h lt = let r = count_more flags i h (omega (arith, lt)) in omega (arith, r)

pub count_none : (flags : List Bool) → ((i : ℕ) → get_or flags i false ≡ false) → 0 ≡ count flags
count_none [] none = refl
count_none (true ∷ flags) none = absurd (false≢true (sym (none 0)))
count_none (false ∷ flags) none = count_none flags (λ i. none (suc i))
