use Rattle.std.proofs.Common.{◌≡◌, ◌≤◌, take, length, map}
use Rattle.cache_model.specs.Lists.{AscendByPlace}
use Rattle.cache_update.specs.GappedList.{IsGap, around}
use Rattle.cache_update.specs.Given.{digest_none, undo_digests}
use Rattle.cache_update.proofs.undoing.take_out_gained.Given as goal

abbrev pub invariant-loop-i : goal.invariant-loop-i
invariant-loop-i l = record {
  gap : IsGap l.now.from l.now.to l.list;
  rest : undo_digests (map digest_none l.gained) (around l.fn.gap.from l.fn.gap.to l.initial.list)
      ≡ undo_digests (map digest_none (take l.i l.gained)) (around l.now.from l.now.to l.list);
  ascends : AscendByPlace (around l.now.from l.now.to l.list);
  within : l.i ≤ length l.gained;
}

abbrev pub decreases-loop-i : goal.decreases-loop-i
decreases-loop-i l = l.i
