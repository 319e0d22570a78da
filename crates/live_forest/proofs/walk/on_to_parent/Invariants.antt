use Rattle.std.proofs.Common.{◌-◌, length}
use Rattle.live_forest.proofs.walk.on_to_parent.Given as goal

abbrev pub decreases-loop-at : goal.decreases-loop-at
decreases-loop-at l = length l.initial.above - l.at
