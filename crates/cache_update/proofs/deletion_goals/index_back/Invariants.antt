use Rattle.cache_update.specs.DeletionGoals.{NoneBefore}
use Rattle.cache_update.proofs.deletion_goals.index_back.Given as goal

abbrev pub invariant-loop-at : goal.invariant-loop-at
invariant-loop-at l = NoneBefore l.held l.at l.place

abbrev pub decreases-loop-at : goal.decreases-loop-at
decreases-loop-at l = l.at
