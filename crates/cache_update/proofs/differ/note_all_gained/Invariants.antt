use Rattle.std.proofs.Common.{◌≡◌, ◌+◌, ◌<◌, ◌≤◌, ◌++◌, drop, length, get_or, filter_map, vec_len, vec_capacity}
use Rattle.uo_digest.specs.declared.digest.Digest.{Digest}
use Rattle.forest_place.specs.declared.place.Place.{Place}
use Rattle.cache_update.specs.Differences.{AreBefore, gained}
use Rattle.cache_update.proofs.differ.note_all_gained.Given as goal

abbrev pub invariant-loop-i : goal.invariant-loop-i
invariant-loop-i l = record {
  rest : l.initial.gained.items ++ filter_map (gained l.older) l.newer ≡ l.gained.items ++ filter_map (gained l.older) (drop l.i l.newer);
  len : vec_len l.gained ≤ vec_len l.initial.gained + l.i;
  near : (d : Place × Digest) → l.i < length l.newer → AreBefore l.older l.at (get_or l.newer l.i d).0;
  room : vec_capacity l.initial.gained ≤ vec_capacity l.gained;
}
