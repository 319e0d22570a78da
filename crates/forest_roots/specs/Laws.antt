-- What holds of roots and additions. The laws are the contracts of functions with no code.
use Rattle.std.specs.Prelude.{◌≡◌, ℕ, suc, ◌+◌, ◌≤◌, List, [], ◌∷◌, length, count_ones, Option}
use Rattle.std.specs.List.{sum_by}
use Rattle.uo_digest.specs.declared.digest.Digest.{Digest}
use Rattle.forest_roots.specs.Stump.{Stump, IsStump, StandsFor}
use Rattle.forest_roots.specs.Joined.{addition_steps}

-- the roots that stand for a list of entries are determined by it
abbrev pub EntriesHaveOneStump : Type 0
EntriesHaveOneStump = (H : List ℕ → Digest) (es : List (Option Digest)) (f g : Stump) → IsStump f → IsStump g → StandsFor H es f → StandsFor H es g
    → f ≡ g

-- what additions find, one after another: n entries, and then each time one more, whatever deletions in between did to the roots
abbrev pub AreMetFrom : ℕ → List Stump → Type 0
AreMetFrom n [] = Unit {0}
AreMetFrom n (f ∷ fs) = (f.leaves ≡ n) × AreMetFrom (suc n) fs

-- the steps of any a additions from n entries on, with deletions between them, are at most a + ones(n) - ones(n + a), where ones counts the set bits
abbrev pub AdditionsTakeFewSteps : Type 0
AdditionsTakeFewSteps = (n : ℕ) (met : List Stump) → AreMetFrom n met
    → sum_by addition_steps met + count_ones (n + length met) ≤ length met + count_ones n
