use Rattle.std.proofs.Common.{◌≤◌, ◌+◌, ◌-◌, length}
use Rattle.live_forest.specs.Rows.{is_one, AreTaken, IsRowStep}
use Rattle.live_forest.proofs.emptying.gather.Given as goal

abbrev pub invariant-loop-next : goal.invariant-loop-next
invariant-loop-next g l = record {
  taken : AreTaken g.D.Digester.digest_of l.n l.store l.numbers l.row l.next l.waiting;
  step : IsRowStep g.D.Digester.digest_of (is_one l.numbers) l.row l.initial.store l.store;
  few : l.waiting.count + l.from ≤ l.next;
  within : l.next ≤ length l.numbers;
}

abbrev pub decreases-loop-next : goal.decreases-loop-next
decreases-loop-next g l = length l.numbers - l.next
