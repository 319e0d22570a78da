-- Why no mark is made for a block.
use Rattle.std.specs.Prelude.{ℕ, ◌<◌, List, All}
use Rattle.forest_place.specs.Forest.{InForest}
use Rattle.forest_model.specs.Cover.{HasShape}
use Rattle.cache_model.specs.declared.kept.Kept.{Kept}
use Rattle.cache_model.specs.Lists.{leaf_places}
use Rattle.leaf_cache.specs.Parted.{Parted}
use Rattle.cache_update.specs.declared.fault.BeginFault.{BeginFault}
use Rattle.cache_update.specs.declared.fault.BeginFault.TheVariants.{Elsewhere, NoMemory}

-- numbers and places are those of the forest over n entries, and the kept places have shape
pub record IsOfForest (n : ℕ) (p : Parted) : Type 0 where
  pub numbers : All (λ k. k.number < n) p.kept
  pub shape : HasShape n (leaf_places p.kept)
  pub held : All (λ x. InForest n x.0.row x.0.off) p.held

-- what a fault says of the kept entries, over n entries
abbrev pub IsKeptFault : ℕ → List Kept → BeginFault → Type 0
IsKeptFault n ks Elsewhere = HasShape n (leaf_places ks) → ⊥
IsKeptFault n ks NoMemory = Unit {0}

-- and of the whole cache
abbrev pub IsBeginFault : ℕ → Parted → BeginFault → Type 0
IsBeginFault n p Elsewhere = IsOfForest n p → ⊥
IsBeginFault n p NoMemory = Unit {0}
