use Rattle.std.proofs.Common.{◌-◌}
use Rattle.cache_update.specs.Brackets.{IsBracket}
use Rattle.cache_update.proofs.number_search.index_near.Given as goal

abbrev pub invariant-loop-low : goal.invariant-loop-low
invariant-loop-low l = IsBracket l.numbers l.number l.low l.high

abbrev pub decreases-loop-low : goal.decreases-loop-low
decreases-loop-low l = l.high - l.low
