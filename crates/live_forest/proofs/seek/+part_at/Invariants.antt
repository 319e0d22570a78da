use Rattle.std.proofs.Common.{◌-◌}
use Rattle.live_forest.proofs.seek.+part_at.Given as goal

abbrev pub decreases-part_at : goal.decreases-part_at
decreases-part_at l = 40 - l.row
