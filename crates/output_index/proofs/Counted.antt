-- How many entries stand, and room for their cells.
use Rattle.std.proofs.Common.{◌≡◌, ℕ, zero, suc, ◌+◌, List, [], ◌∷◌, length, set, Option, Some, None, refl, arith}
use Rattle.std.specs.Prelude.{slice_get, IsSome}
use Rattle.std.proofs.lemmas.Bool.{false≢true}
use Rattle.std.proofs.lemmas.List.{length-map}
use Rattle.std.proofs.lemmas.Option.{none-some, same_Some}
use Rattle.output_index.specs.declared.entry.Entry.{Entry}
use Rattle.output_index.specs.Entries.{entry_at, entries_from, changed, changed_at}
use Rattle.output_index.proofs.Numbered.{stands-at}

cleared-from : (k n : ℕ) (e : Entry) (xs : List (Option Entry)) → slice_get xs n ≡ Some (Some e)
    → length (entries_from k (set xs n None)) + 1 ≡ length (entries_from k xs)
cleared-from k n e [] at = absurd (none-some (Some e) at)
cleared-from k zero e (None ∷ xs) at = absurd (none-some e (same_Some None (Some e) at))
cleared-from k zero e (Some d ∷ xs) at = omega arith
cleared-from k (suc n) e (None ∷ xs) at = cleared-from (suc k) n e xs at
cleared-from k (suc n) e (Some d ∷ xs) at = let r = cleared-from (suc k) n e xs at in omega (arith, r)

-- one fewer, where one is taken out
pub count-cleared : (n : ℕ) (xs : List (Option Entry)) → IsSome (entry_at n (entries_from 0 xs))
    → length (entries_from 0 (set xs n None)) + 1 ≡ length (entries_from 0 xs)
count-cleared n xs h = by_case (entry_at n (entries_from 0 xs)) refl h
  where
    by_case : (x : Option Entry) → entry_at n (entries_from 0 xs) ≡ x → IsSome x
        → length (entries_from 0 (set xs n None)) + 1 ≡ length (entries_from 0 xs)
    by_case None q s = absurd (false≢true s)
    by_case (Some e) q s = cleared-from 0 n e xs (stands-at n e xs q)

-- as many, where one is changed
pub count-changed : (n : ℕ) (f : Entry → Entry) (es : List (ℕ × Entry)) → length (changed n f es) ≡ length es
count-changed n f es = length-map es (changed_at n f)
