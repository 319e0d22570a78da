use Rattle.std.proofs.Common.{◌≤◌, ◌+◌, ◌-◌, length}
use Rattle.live_forest.specs.Rows.{is_one, AreDone, HasRoom, IsRowStep}
use Rattle.live_forest.proofs.emptying.renew_row.Given as goal

abbrev pub invariant-loop-next : goal.invariant-loop-next
invariant-loop-next g l = record {
  done : AreDone g.D.Digester.digest_of l.n l.store l.numbers l.row l.next;
  step : IsRowStep g.D.Digester.digest_of (is_one l.numbers) l.row l.initial.store l.store;
  waiting : HasRoom l.waiting;
  within : l.next ≤ length l.numbers;
  cost : l.steps ≤ l.initial.steps + l.next;
}

abbrev pub decreases-loop-next : goal.decreases-loop-next
decreases-loop-next g l = length l.numbers - l.next
