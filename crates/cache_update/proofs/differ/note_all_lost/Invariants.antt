use Rattle.std.proofs.Common.{◌≡◌, ◌+◌, ◌<◌, ◌≤◌, ◌++◌, drop, length, get_or, filter_map, vec_len, vec_capacity}
use Rattle.uo_digest.specs.declared.digest.Digest.{Digest}
use Rattle.forest_place.specs.declared.place.Place.{Place}
use Rattle.cache_update.specs.Differences.{AreBefore, lost}
use Rattle.cache_update.proofs.differ.note_all_lost.Given as goal

abbrev pub invariant-loop-i : goal.invariant-loop-i
invariant-loop-i l = record {
  rest : l.initial.lost.items ++ filter_map (lost l.newer) l.older ≡ l.lost.items ++ filter_map (lost l.newer) (drop l.i l.older);
  len : vec_len l.lost ≤ vec_len l.initial.lost + l.i;
  near : (d : Place × Digest) → l.i < length l.older → AreBefore l.newer l.at (get_or l.older l.i d).0;
  room : vec_capacity l.initial.lost ≤ vec_capacity l.lost;
}
