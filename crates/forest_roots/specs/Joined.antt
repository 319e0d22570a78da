-- The joins of an addition.
use Rattle.std.specs.Prelude.{◌≡◌, ℕ, suc, ◌+◌, List, [], ◌∷◌, ◌++◌, map, count_by, is_some, Option, Some}
use Rattle.std.specs.List.{range_with_len}
use Rattle.uo_digest.specs.declared.digest.Digest.{Digest}
use Rattle.forest_model.specs.Addition.{joined_slots, carried_digest, IsAddition}
use Rattle.forest_roots.specs.declared.joins.Join.{Join}
use Rattle.forest_roots.specs.Stump.{Stump, root_in, StandsFor}

-- the join with the root of a row, where d is added
abbrev pub join_at : (List ℕ → Digest) → Stump → Digest → ℕ → Join
join_at H f d row = record { row = row; left = root_in f row; result = carried_digest H (root_in f) d (suc row) }

-- an addition of d makes g of f: roots that stand for a list of entries stand for it with a live entry d at its end
pub record IsAdded (H : List ℕ → Digest) (f : Stump) (d : Digest) (g : Stump) : Type 0 where
  pub leaves : g.leaves ≡ f.leaves + 1
  pub roots : IsAddition H f.leaves d (root_in f) (root_in g)
  pub stands : (es : List (Option Digest)) → StandsFor H es f → StandsFor H (es ++ Some d ∷ []) g

-- the joins of an addition, from row 0 up: each joined slot with the root that stood there and the digest that is carried on
abbrev pub joins_of : (List ℕ → Digest) → Stump → Digest → List Join
joins_of H f d = map (join_at H f d) (range_with_len 0 (joined_slots f.leaves))

-- the digests that an addition makes: one for each joined root that is not empty
abbrev pub addition_steps : Stump → ℕ
addition_steps f = count_by (λ row. is_some (root_in f row)) (range_with_len 0 (joined_slots f.leaves))
