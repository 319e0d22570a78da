use Rattle.cache_tests.proofs.tests.plain.+has_some.Given as goal

abbrev pub decreases-has_some : goal.decreases-has_some
decreases-has_some g l = l.row
