use Rattle.std.proofs.Common.{suc, ◌≤◌, ◌+◌, ◌-◌, ◌/◌, ◌^◌}
use Rattle.std.specs.Prelude.{nat_le}
use Rattle.live_forest.specs.Rows.{AreFilled, HasRoom, IsRowStep}
use Rattle.live_forest.proofs.growth.fill_row.Given as goal

abbrev pub invariant-loop-next : goal.invariant-loop-next
invariant-loop-next g l = record {
  filled : AreFilled g.D.Digester.digest_of l.store l.row (l.before / 2 ^ suc l.row) l.next;
  step : IsRowStep g.D.Digester.digest_of (nat_le l.before) l.row l.initial.store l.store;
  waiting : HasRoom l.waiting;
  first : l.before / 2 ^ suc l.row ≤ l.next;
  within : l.next ≤ l.n / 2 ^ suc l.row;
  cost : l.steps + l.before / 2 ^ suc l.row ≤ l.initial.steps + l.next;
}

abbrev pub decreases-loop-next : goal.decreases-loop-next
decreases-loop-next g l = l.n / 2 ^ suc l.row - l.next
