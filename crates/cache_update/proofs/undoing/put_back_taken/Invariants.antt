use Rattle.std.proofs.Common.{◌≡◌, map, vec_len, vec_capacity}
use Rattle.cache_model.specs.Lists.{AscendByNumber}
use Rattle.cache_update.specs.Given.{entry_was, undo_entries}
use Rattle.cache_update.proofs.undoing.put_back_taken.Given as goal

abbrev pub invariant-loop-entry : goal.invariant-loop-entry
invariant-loop-entry l = record {
  rest : undo_entries (map entry_was l.fn.taken.items) l.initial.kept.items ≡ undo_entries (map entry_was l.left.items) l.kept.items;
  ascends : AscendByNumber l.kept.items;
  room : vec_capacity l.kept ≡ vec_capacity l.initial.kept;
}

abbrev pub decreases-loop-entry : goal.decreases-loop-entry
decreases-loop-entry l = vec_len l.left
