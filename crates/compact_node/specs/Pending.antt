-- The new outputs of a block that are watched.
use Rattle.std.specs.Prelude.{ℕ, suc, List, [], ◌∷◌, ◌++◌, Some, if◌then◌else◌}
use Rattle.leaf_record.specs.Leaf.{Leaf}
use Rattle.cache_model.specs.Known.{is_watched}

-- each with its index, where the first output has this one; the last one first
abbrev pub pending : List (List ℕ) → ℕ → List Leaf → List (ℕ × Leaf)
pending scripts i [] = []
pending scripts i (leaf ∷ later) = if is_watched scripts (Some leaf) then pending scripts (suc i) later
    ++ (i, leaf) ∷ [] else pending scripts (suc i) later
