use Rattle.std.proofs.Common.{◌≡◌, ◌+◌}
use Rattle.cache_update.specs.GappedList.{IsGap, around}
use Rattle.cache_update.proofs.gapped_list.go_down.Given as goal

abbrev pub invariant-loop-now : goal.invariant-loop-now
invariant-loop-now l = record {
  gap : IsGap l.now.from l.now.to l.list;
  same : around l.now.from l.now.to l.list ≡ around l.fn.gap.from l.fn.gap.to l.initial.list;
  size : l.now.to + l.fn.gap.from ≡ l.now.from + l.fn.gap.to;
}

abbrev pub decreases-loop-now : goal.decreases-loop-now
decreases-loop-now l = l.now.from
