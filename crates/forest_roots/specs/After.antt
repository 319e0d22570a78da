-- The roots after additions.
use Rattle.std.specs.Prelude.{ℕ, ◌+◌, List, [], ◌∷◌, map, Option, Some, None, if◌then◌else◌}
use Rattle.std.specs.List.{range_with_len}
use Rattle.uo_digest.specs.declared.digest.Digest.{Digest}
use Rattle.forest_place.specs.Forest.{is_slot}
use Rattle.forest_model.specs.Addition.{all_slots, carried_digest}
use Rattle.forest_roots.specs.Stump.{Stump, root_in}
use Rattle.forest_roots.specs.Joined.{addition_steps}

-- where d is added, the slots below the first free row are joined there
abbrev pub root_with : (List ℕ → Digest) → Stump → Digest → ℕ → Option Digest
root_with H f d row =
    if all_slots f.leaves row
    then (if is_slot f.leaves row then None else Some (carried_digest H (root_in f) d row))
    else root_in f row

unfoldable pub with_leaf : (List ℕ → Digest) → Stump → Digest → Stump
with_leaf H f d = record { leaves = f.leaves + 1; rows = map (root_with H f d) (range_with_len 0 40) }

-- one after the other
abbrev pub with_leaves : (List ℕ → Digest) → Stump → List Digest → Stump
with_leaves H f [] = f
with_leaves H f (d ∷ ds) = with_leaves H (with_leaf H f d) ds

-- the digests that these additions make
abbrev pub additions_steps : (List ℕ → Digest) → Stump → List Digest → ℕ
additions_steps H f [] = 0
additions_steps H f (d ∷ ds) = addition_steps f + additions_steps H (with_leaf H f d) ds
