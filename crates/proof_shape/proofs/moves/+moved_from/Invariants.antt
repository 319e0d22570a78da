use Rattle.std.proofs.Common.{◌-◌}
use Rattle.proof_shape.proofs.moves.+moved_from.Given as goal

abbrev pub decreases-moved_from : goal.decreases-moved_from
decreases-moved_from l = 40 - l.place.row
