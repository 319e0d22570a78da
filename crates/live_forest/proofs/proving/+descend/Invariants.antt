use Rattle.live_forest.proofs.proving.+descend.Given as goal

abbrev pub decreases-descend : goal.decreases-descend
decreases-descend g l = l.part.row
