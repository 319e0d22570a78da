-- What undoing a block makes of the entries.
use Rattle.std.specs.Prelude.{◌≡◌, ℕ, ◌==◌, true, List, [], ◌∷◌, ◌++◌, length, get_or, set, take, Option, Some, None}
use Rattle.std.specs.List.{list_any, AllByRecursion}
use Rattle.uo_digest.specs.declared.digest.Digest.{Digest}
use Rattle.forest_model.specs.Deletion.{entries_without}

-- the entries, those of these numbers live, each with a digest
abbrev pub all_restored : List (ℕ × Digest) → List (Option Digest) → List (Option Digest)
all_restored [] es = es
all_restored (p ∷ ps) es = all_restored ps (set es p.0 (Some p.1))

-- a block that spends entries and adds some is undone by a cut and by making live what was spent, in any order
abbrev pub UndoingGivesBack : Type 0
UndoingGivesBack = (es added : List (Option Digest)) (spent : List ℕ) (restored : List (ℕ × Digest)) →
    AllByRecursion (λ p. get_or es p.0 None ≡ Some p.1) restored
    → ((i : ℕ) → list_any (λ j. j == i) spent ≡ true → list_any (λ p. p.0 == i) restored ≡ true) →
    all_restored restored (take (length es) (entries_without spent es ++ added)) ≡ es
