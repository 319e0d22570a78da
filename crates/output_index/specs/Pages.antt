-- Entries in pages of 256 numbers, of which only those are kept that are held.
use Rattle.std.specs.Prelude.{◌≡◌, ℕ, ◌++◌, Bool, true, false, List, [], ◌∷◌, length, get_or, Option, Some, None}
use Rattle.std.specs.List.{AllByRecursion}
use Rattle.output_index.specs.declared.entry.Entry.{Entry}
use Rattle.output_index.specs.NumberSet.{count}

-- ---- a page

-- entries that lie side by side, each laid where its number is in the set
abbrev pub laid : List Bool → List Entry → List (Option Entry)
laid [] es = []
laid (false ∷ flags) es = None ∷ laid flags es
laid (true ∷ flags) [] = None ∷ laid flags []
laid (true ∷ flags) (e ∷ es) = Some e ∷ laid flags es

-- an entry for each number that is in the set
pub record IsPage (flags : List Bool) (es : List Entry) : Type 0 where
  pub len : length flags ≡ 256
  pub full : length es ≡ count flags

-- what a page has of a number
abbrev pub entry_in : List (Option Entry) → ℕ → Option Entry
entry_in page i = get_or page i None

-- ---- all pages

abbrev pub row_of : List (List (Option Entry)) → List (Option Entry)
row_of [] = []
row_of (page ∷ pages) = page ++ row_of pages

abbrev pub ArePages : List (List (Option Entry)) → Type 0
ArePages pages = AllByRecursion (λ page. length page ≡ 256) pages
