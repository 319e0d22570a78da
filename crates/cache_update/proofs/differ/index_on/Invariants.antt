use Rattle.std.proofs.Common.{◌-◌, length}
use Rattle.cache_update.specs.Differences.{AreBefore}
use Rattle.cache_update.proofs.differ.index_on.Given as goal

abbrev pub invariant-loop-at : goal.invariant-loop-at
invariant-loop-at l = AreBefore l.held l.at l.place

abbrev pub decreases-loop-at : goal.decreases-loop-at
decreases-loop-at l = length l.held - l.at
