-- What is said where a mark is refused.
use Rattle.std.proofs.Common.{ℕ, Bool, true, false}
use Rattle.std.specs.Bool.{OnFalse}
use Rattle.leaf_cache.specs.Parted.{Parted}
use Rattle.cache_model.specs.Lists.{leaf_places}
use Rattle.cache_update.specs.Marks.{AreOfForest}
use Rattle.cache_update.specs.Refused.{IsOfForest}
use Rattle.cache_update.proofs.Shaped.{IsPlaceIn, shape_within}
use Rattle.cache_update.proofs.Rooted.{of_places}

pub on_false : {P Q : Type 0} (b : Bool) → (P → Q) → OnFalse b P → OnFalse b Q
on_false true f h = tt
on_false false f h = f h

-- the places of shape are those of the forest
pub forest_lists : (n : ℕ) (p : Parted) → IsOfForest n p → AreOfForest n p
forest_lists n p f = record {
  numbers = f.numbers;
  kept = of_places (IsPlaceIn n) p.kept (shape_within n (leaf_places p.kept) f.shape);
  held = f.held;
}
