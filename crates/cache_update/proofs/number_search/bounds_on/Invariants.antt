use Rattle.std.proofs.Common.{◌+◌, ◌-◌, ◌<◌, ◌≤◌, length}
use Rattle.cache_update.specs.Brackets.{IsBracket}
use Rattle.cache_update.proofs.number_search.bounds_on.Given as goal

abbrev pub invariant-loop-step : goal.invariant-loop-step
invariant-loop-step l = record {
  known : IsBracket l.numbers l.number l.low (length l.numbers);
  short : l.step ≤ l.low + 1;
  some : 0 < l.step;
}

abbrev pub decreases-loop-step : goal.decreases-loop-step
decreases-loop-step l = length l.numbers - l.low
