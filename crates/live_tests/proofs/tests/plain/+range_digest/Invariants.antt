use Rattle.live_tests.proofs.tests.plain.+range_digest.Given as goal

abbrev pub decreases-range_digest : goal.decreases-range_digest
decreases-range_digest g l = l.row
