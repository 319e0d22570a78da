-- What cells tell of marks.
use Rattle.std.proofs.Common.{◌≡◌, ◌≢◌, ℕ, zero, suc, Bool, true, false, cond, List, [], ◌∷◌, ◌++◌, Option, Some, None, set, take, refl, sym, ap, ◌∙◌}
use Rattle.std.proofs.Common.{⊎_elim, ne_eqb, eq-eqb}
use Rattle.std.specs.Prelude.{slice_get}
use Rattle.std.specs.List.{AllByRecursion, filter, remove}
use Rattle.std.proofs.lemmas.Bool.{cases_Bool, cases_eq, eqb-true, false≢true}
use Rattle.std.proofs.lemmas.Option.{none-some, same_Some}
use Rattle.output_index.specs.declared.bucket_cell.BucketCell.{BucketCell}
use Rattle.output_index.specs.Buckets.{in_cells, first_in, in_place, first_in_place, bucket_of, is_own, IsFirstAt}

pub cell-here : (c : BucketCell) (cs : List BucketCell) (m : ℕ) → c.mark ≡ m → in_cells (c ∷ cs) m ≡ Some c.number
cell-here c cs m s = rw (eq-eqb c.mark m s) refl

pub cell-there : (c : BucketCell) (cs : List BucketCell) (m : ℕ) → c.mark ≢ m → in_cells (c ∷ cs) m ≡ in_cells cs m
cell-there c cs m o = rw (ne_eqb c.mark m o) refl

-- what the first cell tells is told
first-in : (cells : List BucketCell) (m n : ℕ) → first_in cells m ≡ Some n → in_cells cells m ≡ Some n
first-in [] m n h = absurd (none-some n h)
first-in (c ∷ cs) m n h =
    ⊎_elim
    (λ s. let own : first_in (c ∷ cs) m ≡ Some c.number = rw (eq-eqb c.mark m s) refl in cell-here c cs m s ∙ (sym own ∙ h))
    (λ o. let other : first_in (c ∷ cs) m ≡ None = rw (ne_eqb c.mark m o) refl in absurd (none-some n (sym other ∙ h)))
    (cases_eq c.mark m)

pub first-place : (place : Option (List BucketCell)) (m n : ℕ) → first_in_place place m ≡ Some n → in_place place m ≡ Some n
first-place None m n h = absurd (none-some n h)
first-place (Some cells) m n h = first-in cells m n h

-- cells before which none has the mark begin with one of another mark
not-here : (c : BucketCell) (cs : List BucketCell) (m : ℕ) → in_cells (c ∷ cs) m ≡ None → (c.mark ≢ m) × (in_cells cs m ≡ None)
not-here c cs m h =
    let other : c.mark ≢ m = λ s. none-some c.number (sym h ∙ cell-here c cs m s) in
    (other, sym (cell-there c cs m other) ∙ h)

-- the same in front of other cells
under : (c : BucketCell) (xs ys : List BucketCell) (m : ℕ) → in_cells xs m ≡ in_cells ys m → in_cells (c ∷ xs) m ≡ in_cells (c ∷ ys) m
under c xs ys m h = ⊎_elim (λ s. cell-here c xs m s ∙ sym (cell-here c ys m s)) (λ o. cell-there c xs m o ∙ (h ∙ sym (cell-there c ys m o)))
    (cases_eq c.mark m)

pub first-tells : (at : ℕ) (c : BucketCell) (cs : List BucketCell) (m : ℕ) → slice_get cs at ≡ Some c → c.mark ≡ m → in_cells (take at cs) m ≡ None
    → in_cells cs m ≡ Some c.number
first-tells at c [] m there mark before = absurd (none-some c there)
first-tells zero c (x ∷ cs) m there mark before = let e = same_Some x c there in
    cell-here x cs m (ap (λ y. y.mark) e ∙ mark) ∙ ap (λ y. Some y.number) e
first-tells (suc at) c (x ∷ cs) m there mark before = let k = not-here x (take at cs) m before in
    cell-there x cs m k.0 ∙ first-tells at c cs m there mark k.1

pub none-further : (at : ℕ) (c : BucketCell) (cs : List BucketCell) (m : ℕ) → slice_get cs at ≡ Some c → c.mark ≢ m → in_cells (take at cs) m ≡ None
    → in_cells (take (suc at) cs) m ≡ None
none-further at c [] m there other before = absurd (none-some c there)
none-further zero c (x ∷ cs) m there other before = cell-there x [] m (λ s. other (sym (ap (λ y. y.mark) (same_Some x c there)) ∙ s))
none-further (suc at) c (x ∷ cs) m there other before = let k = not-here x (take at cs) m before in
    cell-there x (take (suc at) cs) m k.0 ∙ none-further at c cs m there other k.1

pub set-here : (at : ℕ) (c new : BucketCell) (cs : List BucketCell) (m : ℕ) → slice_get cs at ≡ Some c → in_cells (take at cs) m ≡ None → new.mark ≡ m
    → in_cells (set cs at new) m ≡ Some new.number
set-here at c new [] m there before mark = absurd (none-some c there)
set-here zero c new (x ∷ cs) m there before mark = cell-here new cs m mark
set-here (suc at) c new (x ∷ cs) m there before mark = let k = not-here x (take at cs) m before in
    cell-there x (set cs at new) m k.0 ∙ set-here at c new cs m there k.1 mark

pub set-others : (at : ℕ) (c new : BucketCell) (cs : List BucketCell) (m : ℕ) → slice_get cs at ≡ Some c → c.mark ≢ m → new.mark ≢ m
    → in_cells (set cs at new) m ≡ in_cells cs m
set-others at c new [] m there old other = refl
set-others zero c new (x ∷ cs) m there old other =
    cell-there new cs m other ∙ sym (cell-there x cs m (λ s. old (sym (ap (λ y. y.mark) (same_Some x c there)) ∙ s)))
set-others (suc at) c new (x ∷ cs) m there old other = under x (set cs at new) cs m (set-others at c new cs m there old other)

pub remove-others : (at : ℕ) (c : BucketCell) (cs : List BucketCell) (m : ℕ) → slice_get cs at ≡ Some c → c.mark ≢ m
    → in_cells (remove cs at) m ≡ in_cells cs m
remove-others at c [] m there old = absurd (none-some c there)
remove-others zero c (x ∷ cs) m there old = sym (cell-there x cs m (λ s. old (sym (ap (λ y. y.mark) (same_Some x c there)) ∙ s)))
remove-others (suc at) c (x ∷ cs) m there old = under x (remove cs at) cs m (remove-others at c cs m there old)

-- ---- cells that are sought in one bucket

-- one that is sought elsewhere is taken out
pub filter-removed : (p : BucketCell → Bool) (at : ℕ) (c : BucketCell) (cs : List BucketCell) → slice_get cs at ≡ Some c → p c ≡ false
    → filter p (remove cs at) ≡ filter p cs
filter-removed p at c [] there fails = absurd (none-some c there)
filter-removed p zero c (x ∷ cs) there fails = sym (ap (λ b. cond b (x ∷ filter p cs) (filter p cs)) (ap p (same_Some x c there) ∙ fails))
filter-removed p (suc at) c (x ∷ cs) there fails = ap (λ ys. cond (p x) (x ∷ ys) ys) (filter-removed p at c cs there fails)

-- none is sought elsewhere
pub filter-own : (bits count number : ℕ) (cs : List BucketCell) → AllByRecursion (λ c. bucket_of bits count c.mark ≡ number) cs
    → filter (is_own bits count number) cs ≡ cs
filter-own bits count number [] all = refl
filter-own bits count number (x ∷ cs) all =
    let rest = filter (is_own bits count number) cs in
    ap (λ b. cond b (x ∷ rest) rest) (eq-eqb (bucket_of bits count x.mark) number all.0) ∙ ap (λ ys. x ∷ ys) (filter-own bits count number cs all.1)

-- what stays is sought there
pub filter-is_own : (bits count number : ℕ) (cs : List BucketCell)
    → AllByRecursion (λ c. bucket_of bits count c.mark ≡ number) (filter (is_own bits count number) cs)
filter-is_own bits count number [] = tt
filter-is_own bits count number (x ∷ cs) =
    by_case (is_own bits count number x) refl (filter (is_own bits count number) cs) (filter-is_own bits count number cs)
  where
    by_case : (b : Bool) → is_own bits count number x ≡ b → (rest : List BucketCell) → AllByRecursion (λ c. bucket_of bits count c.mark ≡ number) rest
        → AllByRecursion (λ c. bucket_of bits count c.mark ≡ number) (cond b (x ∷ rest) rest)
    by_case true t rest all = (eqb-true (bucket_of bits count x.mark) number t, all)
    by_case false t rest all = all

pub own-further : (bits count number at : ℕ) (c : BucketCell) (cs : List BucketCell) → slice_get cs at ≡ Some c → bucket_of bits count c.mark ≡ number
    → AllByRecursion (λ x. bucket_of bits count x.mark ≡ number) (take at cs) →
    AllByRecursion (λ x. bucket_of bits count x.mark ≡ number) (take (suc at) cs)
own-further bits count number at c [] there own before = absurd (none-some c there)
own-further bits count number zero c (x ∷ cs) there own before = (ap (λ y. bucket_of bits count y.mark) (same_Some x c there) ∙ own, tt)
own-further bits count number (suc at) c (x ∷ cs) there own before = (before.0, own-further bits count number at c cs there own before.1)

own-first : (bits count number : ℕ) (x : BucketCell) (cs : List BucketCell) (m : ℕ) → bucket_of bits count m ≡ number
    → in_cells (filter (is_own bits count number) cs) m ≡ in_cells cs m
    → in_cells (filter (is_own bits count number) (x ∷ cs)) m ≡ in_cells (x ∷ cs) m
own-first bits count number x cs m here again =
    let rest = filter (is_own bits count number) cs in
    ⊎_elim
    (λ t. ap (λ b. in_cells (cond b (x ∷ rest) rest) m) t ∙ under x rest cs m again)
    (λ f. ap (λ b. in_cells (cond b (x ∷ rest) rest) m) f ∙ (again
    ∙ sym (cell-there x cs m (λ s. false≢true (sym f ∙ eq-eqb (bucket_of bits count x.mark) number (ap (bucket_of bits count) s ∙ here))))))
    (cases_Bool (is_own bits count number x))

-- they tell the same of a mark that is sought there
pub own-tell : (bits count number : ℕ) (cs : List BucketCell) (m : ℕ) → bucket_of bits count m ≡ number
    → in_cells (filter (is_own bits count number) cs) m ≡ in_cells cs m
own-tell bits count number [] m here = refl
own-tell bits count number (x ∷ cs) m here = own-first bits count number x cs m here (own-tell bits count number cs m here)

-- ---- one more cell

pub put-here : (c : BucketCell) (cs : List BucketCell) → in_cells cs c.mark ≡ None → in_cells (cs ++ c ∷ []) c.mark ≡ Some c.number
put-here c [] none = cell-here c [] c.mark refl
put-here c (x ∷ cs) none = let k = not-here x cs c.mark none in cell-there x (cs ++ c ∷ []) c.mark k.0 ∙ put-here c cs k.1

pub put-others : (c : BucketCell) (cs : List BucketCell) (m : ℕ) → c.mark ≢ m → in_cells (cs ++ c ∷ []) m ≡ in_cells cs m
put-others c [] m other = cell-there c [] m other
put-others c (x ∷ cs) m other = under x (cs ++ c ∷ []) cs m (put-others c cs m other)

-- ---- the first cell with a mark

pub set-first : (at : ℕ) (cs : List BucketCell) (mark number : ℕ) → IsFirstAt cs mark at
    → in_cells (set cs at (record { mark = mark; number = number })) mark ≡ Some number
set-first at cs mark number h = set-here at h.cell (record { mark = mark; number = number }) cs mark h.there h.before refl

pub set-first-others : (at : ℕ) (cs : List BucketCell) (mark number : ℕ) → IsFirstAt cs mark at → (m : ℕ) → m ≢ mark
    → in_cells (set cs at (record { mark = mark; number = number })) m ≡ in_cells cs m
set-first-others at cs mark number h m o =
    set-others at h.cell (record { mark = mark; number = number }) cs m h.there (λ s. o (sym s ∙ h.mark)) (λ s. o (sym s))
