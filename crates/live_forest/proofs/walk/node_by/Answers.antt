use Rattle.live_forest.proofs.Seeking.{outside}
use Rattle.live_forest.proofs.Walking.{not_within}
use Rattle.live_forest.specs.Parts.{entries_in}
use Rattle.live_forest.proofs.walk.node_by.Goals as goal

pub returns-then-not-is_within : goal.returns-then-not-is_within
returns-then-not-is_within c = outside (entries_in c.args.n c.args.store.now) c.args.store.now c.requires.alike c.args.place.row c.args.place.off
    (not_within _ _ c.if-not-is_within.true c.is_within.ensures)
