use Rattle.std.proofs.Common.{ℕ, ◌<◌, slice_index_or}
use Rattle.uo_digest.specs.declared.digest.Digest.{Digest}
use Rattle.forest_place.specs.declared.place.Place.{Place}
use Rattle.forest_place.specs.Forest.{InForest}
use Rattle.cache_update.proofs.block_room.are_held_in.Given as goal

abbrev pub invariant-loop-i : goal.invariant-loop-i
invariant-loop-i l = (k : ℕ) (d : Place × Digest) → k < l.i → InForest l.n (slice_index_or l.held k d).0.row (slice_index_or l.held k d).0.off
