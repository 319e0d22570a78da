use Rattle.std.proofs.Common.{◌≡◌, ◌+◌, ◌-◌, length}
use Rattle.cache_update.specs.GappedList.{IsGap, EndsBefore, around}
use Rattle.cache_update.proofs.gapped_list.go_up.Given as goal

abbrev pub invariant-loop-now : goal.invariant-loop-now
invariant-loop-now l = record {
  gap : IsGap l.now.from l.now.to l.list;
  same : around l.now.from l.now.to l.list ≡ around l.fn.gap.from l.fn.gap.to l.initial.list;
  size : l.now.to + l.fn.gap.from ≡ l.now.from + l.fn.gap.to;
  before : EndsBefore (around l.fn.gap.from l.fn.gap.to l.initial.list) l.now.from l.place;
}

abbrev pub decreases-loop-now : goal.decreases-loop-now
decreases-loop-now l = length l.list - l.now.to
