-- Lists of a cache beside roots, which need not stand for a history: a forged proof may have been accepted over them.
use Rattle.std.specs.Prelude.{◌≡◌, ℕ, ◌<◌, true, List, is_some, All}
use Rattle.uo_digest.specs.declared.digest.Digest.{Digest}
use Rattle.forest_place.specs.declared.place.Place.{Place}
use Rattle.forest_place.specs.Forest.{InForest, IsSlotOf}
use Rattle.forest_model.specs.Cover.{HasShape}
use Rattle.forest_roots.specs.Stump.{Stump, root_in}
use Rattle.cache_model.specs.declared.kept.Kept.{Kept}
use Rattle.cache_model.specs.Lists.{leaf_places}

-- the slot that has the place has a root that is not empty
abbrev pub IsRooted : Stump → Place → Type 0
IsRooted f p = (row : ℕ) → IsSlotOf f.leaves p.row p.off row → is_some (root_in f row) ≡ true

-- numbers and places are those of the forest, the kept places have shape, and each stands beneath a root that is not empty
pub record AreOfRoots (f : Stump) (ks : List Kept) (hs : List (Place × Digest)) : Type 0 where
  pub numbers : All (λ k. k.number < f.leaves) ks
  pub shape : HasShape f.leaves (leaf_places ks)
  pub rooted : All (λ k. IsRooted f k.place) ks
  pub held : All (λ x. InForest f.leaves x.0.row x.0.off) hs
