use Rattle.cache_tests.proofs.tests.plain.+content.Given as goal

abbrev pub decreases-content : goal.decreases-content
decreases-content g l = l.row
