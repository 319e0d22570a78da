use Rattle.live_forest.proofs.seek.+smallest.Given as goal

abbrev pub decreases-smallest : goal.decreases-smallest
decreases-smallest l = l.row
