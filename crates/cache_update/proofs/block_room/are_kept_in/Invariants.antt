use Rattle.std.proofs.Common.{ℕ, ◌<◌, slice_index_or}
use Rattle.forest_place.specs.Forest.{InForest}
use Rattle.cache_model.specs.declared.kept.Kept.{Kept}
use Rattle.cache_update.proofs.block_room.are_kept_in.Given as goal

abbrev pub invariant-loop-i : goal.invariant-loop-i
invariant-loop-i l = record {
  numbers : (k : ℕ) (d : Kept) → k < l.i → (slice_index_or l.kept k d).number < l.n;
  places : (k : ℕ) (d : Kept) → k < l.i → InForest l.n (slice_index_or l.kept k d).place.row (slice_index_or l.kept k d).place.off;
}
