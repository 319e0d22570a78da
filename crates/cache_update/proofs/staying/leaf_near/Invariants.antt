use Rattle.std.proofs.Common.{◌-◌, length}
use Rattle.cache_update.proofs.staying.leaf_near.Given as goal

abbrev pub decreases-loop-at : goal.decreases-loop-at
decreases-loop-at l = length l.needed - l.at
