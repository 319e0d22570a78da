use Rattle.cache_tests.proofs.tests.plain.+settled.Given as goal

abbrev pub decreases-settled : goal.decreases-settled
decreases-settled g l = l.row
