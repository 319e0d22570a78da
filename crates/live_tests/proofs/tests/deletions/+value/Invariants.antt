use Rattle.live_tests.proofs.tests.deletions.+value.Given as goal

abbrev pub decreases-value : goal.decreases-value
decreases-value g l = l.row
