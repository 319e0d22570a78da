use Rattle.std.proofs.Common.{◌≡◌, ◌+◌, ◌<◌, ◌≤◌, ◌⊎◌, take, length, map}
use Rattle.cache_model.specs.Lists.{AscendByPlace}
use Rattle.cache_update.specs.GappedList.{IsGap, around}
use Rattle.cache_update.specs.Given.{digest_was, undo_digests}
use Rattle.cache_update.proofs.undoing.put_back_lost.Given as goal

abbrev pub invariant-loop-i : goal.invariant-loop-i
invariant-loop-i l = record {
  gap : IsGap l.now.from l.now.to l.list;
  rest : undo_digests (map digest_was l.lost) (around l.fn.gap.from l.fn.gap.to l.initial.list)
      ≡ undo_digests (map digest_was (take l.i l.lost)) (around l.now.from l.now.to l.list);
  ascends : AscendByPlace (around l.now.from l.now.to l.list);
  within : l.i ≤ length l.lost;
  room : (length (around l.now.from l.now.to l.list) + l.i ≤ length l.list)
      ⊎ (length (undo_digests (map digest_was (take l.i l.lost)) (around l.now.from l.now.to l.list)) < length l.list);
}

abbrev pub decreases-loop-i : goal.decreases-loop-i
decreases-loop-i l = l.i
