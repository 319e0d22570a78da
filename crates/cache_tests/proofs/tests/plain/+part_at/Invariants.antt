use Rattle.std.proofs.Common.{◌-◌}
use Rattle.cache_tests.proofs.tests.plain.+part_at.Given as goal

abbrev pub decreases-part_at : goal.decreases-part_at
decreases-part_at g l = 40 - l.place.row
