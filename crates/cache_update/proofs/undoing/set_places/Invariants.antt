use Rattle.std.proofs.Common.{◌≡◌, ◌≤◌, take, length, map, vec_capacity}
use Rattle.cache_model.specs.Lists.{AscendByNumber}
use Rattle.cache_update.specs.Given.{entry_stood, undo_entries}
use Rattle.cache_update.proofs.undoing.set_places.Given as goal

abbrev pub invariant-loop-i : goal.invariant-loop-i
invariant-loop-i l = record {
  rest : undo_entries (map entry_stood l.stood) l.initial.kept.items ≡ undo_entries (map entry_stood (take l.i l.stood)) l.kept.items;
  ascends : AscendByNumber l.kept.items;
  within : l.i ≤ length l.stood;
  room : vec_capacity l.kept ≡ vec_capacity l.initial.kept;
}

abbrev pub decreases-loop-i : goal.decreases-loop-i
decreases-loop-i l = l.i
