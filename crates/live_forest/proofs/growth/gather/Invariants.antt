use Rattle.std.proofs.Common.{suc, ◌≤◌, ◌+◌, ◌-◌, ◌/◌, ◌^◌}
use Rattle.std.specs.Prelude.{nat_le}
use Rattle.live_forest.specs.Rows.{AreSpanned, IsRowStep}
use Rattle.live_forest.proofs.growth.gather.Given as goal

abbrev pub invariant-loop-next : goal.invariant-loop-next
invariant-loop-next g l = record {
  spanned : AreSpanned g.D.Digester.digest_of l.n l.store l.before l.row l.from l.next l.waiting;
  step : IsRowStep g.D.Digester.digest_of (nat_le l.before) l.row l.initial.store l.store;
  few : l.waiting.count + l.from ≤ l.next;
  within : l.next ≤ l.n / 2 ^ suc l.row;
}

abbrev pub decreases-loop-next : goal.decreases-loop-next
decreases-loop-next g l = l.n / 2 ^ suc l.row - l.next
