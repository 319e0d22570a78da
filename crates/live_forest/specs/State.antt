-- What the contracts see of the forest.
use Rattle.std.specs.Prelude.{ℕ, Bool, false, List, [], ◌∷◌, length, get_or, set, Option, Some, None, is_some}
use Rattle.std.specs.List.{count_by, range_with_len}
use Rattle.uo_digest.specs.declared.digest.Digest.{Digest}
use Rattle.forest_model.specs.Content.{Tree, leaf, inner}
use Rattle.forest_model.specs.Addition.{joined_slots}
use Rattle.forest_model.specs.Standing.{root}

-- all entries that were ever added, each live with its digest or spent, for how many more there is room, and of each entry whether it is held: one
-- that
-- was let go is spent for good
pub record ForestState : Type 0 where
  pub entries : List (Option Digest)
  pub spare : ℕ
  pub held : List Bool

-- the entry is live
abbrev pub is_live : List (Option Digest) → ℕ → Bool
is_live es i = is_some (get_or es i None)

-- the entry is held
abbrev pub is_held : List Bool → ℕ → Bool
is_held held i = get_or held i false

-- what is held, without these entries
abbrev pub held_without : List ℕ → List Bool → List Bool
held_without [] held = held
held_without (i ∷ is) held = held_without is (set held i false)

-- the number of the entry that a tree is, if it is one alone
abbrev pub leaf_number : Option Tree → Option ℕ
leaf_number None = None
leaf_number (Some (leaf i d)) = Some i
leaf_number (Some (inner l r)) = None

-- the digests that an addition takes: one for each root that is joined and not empty
abbrev pub addition_steps : (List ℕ → Digest) → List (Option Digest) → ℕ
addition_steps H es = count_by (λ row. is_some (root H es row)) (range_with_len 0 (joined_slots (length es)))
