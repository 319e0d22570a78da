use Rattle.std.proofs.Common.{length}
use Rattle.forest_place.proofs.Positions.{row_small}
use Rattle.live_forest.specs.Parts.{entries_in}
use Rattle.live_forest.proofs.walk.has_parent.Goals as goal

pub parent-requires : goal.parent-requires
parent-requires c = row_small (length (entries_in c.args.n c.args.store.now)) c.args.place.row c.args.place.off 40 c.requires.within c.requires.small
