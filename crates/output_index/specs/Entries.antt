-- The held entries, each with its number: how they are seen, and what a call makes of them.
use Rattle.std.specs.Prelude.{◌≡◌, ◌≤◌, ◌<◌, ◌+◌, ◌==◌, ℕ, suc, Bool, false, not, List, [], ◌∷◌, map, length, Option, Some, None, if◌then◌else◌}
use Rattle.std.specs.List.{filter, AllByRecursion}
use Rattle.std.specs.Map.{lookup}
use Rattle.std.specs.BTreeMap.{is_at}
use Rattle.std.specs.Ordering.{nat_cmp}
use Rattle.output_index.specs.declared.entry.Entry.{Entry}
use Rattle.output_index.specs.Held.{Held}
use Rattle.output_index.specs.Pages.{row_of, ArePages}

abbrev pub held_of : ℕ × Entry → Held
held_of x = record { number = x.0; leaf = x.1.leaf; live = x.1.live }

abbrev pub held_in : List (ℕ × Entry) → List Held
held_in es = map held_of es

abbrev pub entry_at : ℕ → List (ℕ × Entry) → Option Entry
entry_at n es = lookup (is_at (nat_cmp n)) es

-- whether there is an entry that is live
abbrev pub lives_in : Option Entry → Bool
lives_in None = false
lives_in (Some e) = e.live

abbrev pub lives_at : List (ℕ × Entry) → Option ℕ → Bool
lives_at es None = false
lives_at es (Some n) = lives_in (entry_at n es)

-- the next older one that an entry tells
abbrev pub older_in : Option Entry → Option ℕ
older_in None = None
older_in (Some e) = e.older

-- those of a row of entries, some of which are not held, of which the first has this number
abbrev pub entries_from : ℕ → List (Option Entry) → List (ℕ × Entry)
entries_from n [] = []
entries_from n (None ∷ xs) = entries_from (suc n) xs
entries_from n (Some e ∷ xs) = (n, e) ∷ entries_from (suc n) xs

-- each number is below those behind it
abbrev pub IsRising : List (ℕ × Entry) → Type 0
IsRising [] = Unit {0}
IsRising (x ∷ es) = AllByRecursion (λ y. x.0 < y.0) es × IsRising es

-- ---- changes

abbrev pub changed_at : ℕ → (Entry → Entry) → ℕ × Entry → ℕ × Entry
changed_at n f x = if x.0 == n then (x.0, f x.1) else x

abbrev pub changed : ℕ → (Entry → Entry) → List (ℕ × Entry) → List (ℕ × Entry)
changed n f es = map (changed_at n f) es

abbrev pub set_live : Bool → Entry → Entry
set_live live e = record e { live = live }

abbrev pub set_older : Option ℕ → Entry → Entry
set_older older e = record e { older = older }

abbrev pub removed : ℕ → List (ℕ × Entry) → List (ℕ × Entry)
removed n es = filter (λ x. not (x.0 == n)) es

-- ---- boxes of entries that were taken out, which are kept for the next ones

-- so many entries are held, and the spare boxes have room for the boxes of all of them
pub record CanKeepAll (es : List (ℕ × Entry)) (held spare capacity : ℕ) : Type 0 where
  pub count : held ≡ length es
  pub room : held + spare ≤ capacity

-- pages of 256 numbers, and room for the boxes of all that they hold
pub record AreEntries (pages : List (List (Option Entry))) (held spare capacity : ℕ) : Type 0 where
  pub whole : ArePages pages
  pub kept : CanKeepAll (entries_from 0 (row_of pages)) held spare capacity
