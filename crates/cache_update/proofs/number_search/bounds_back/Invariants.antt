use Rattle.std.proofs.Common.{◌+◌, ◌<◌, ◌≤◌, length}
use Rattle.cache_update.specs.Brackets.{IsBracket}
use Rattle.cache_update.proofs.number_search.bounds_back.Given as goal

abbrev pub invariant-loop-step : goal.invariant-loop-step
invariant-loop-step l = record {
  known : IsBracket l.numbers l.number 0 l.high;
  short : l.step + l.high ≤ length l.numbers + 1;
  some : 0 < l.step;
}

abbrev pub decreases-loop-step : goal.decreases-loop-step
decreases-loop-step l = l.high
