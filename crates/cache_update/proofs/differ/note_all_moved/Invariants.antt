use Rattle.std.proofs.Common.{◌≡◌, ◌+◌, ◌≤◌, ◌++◌, drop, filter_map, vec_len, vec_capacity}
use Rattle.cache_update.specs.Differences.{moved_since}
use Rattle.cache_update.proofs.differ.note_all_moved.Given as goal

abbrev pub invariant-loop-i : goal.invariant-loop-i
invariant-loop-i l = record {
  rest : l.initial.moved.items ++ filter_map (moved_since l.kept) l.stood ≡ l.moved.items ++ filter_map (moved_since l.kept) (drop l.i l.stood);
  len : vec_len l.moved ≤ vec_len l.initial.moved + l.i;
  room : vec_capacity l.initial.moved ≤ vec_capacity l.moved;
}
