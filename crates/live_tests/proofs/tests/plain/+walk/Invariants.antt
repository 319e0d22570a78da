use Rattle.live_tests.proofs.tests.plain.+walk.Given as goal

abbrev pub decreases-walk : goal.decreases-walk
decreases-walk g l = l.row
