use Rattle.forest_place.proofs.Parts.{InForest-left, InForest-right}
use Rattle.live_forest.proofs.page.Page.halves.Goals as goal

pub part-requires-clause-within : goal.part-requires-clause-within
part-requires-clause-within c = InForest-left 128 c.args.row c.args.off c.requires.within

pub part-requires-2-clause-within : goal.part-requires-2-clause-within
part-requires-2-clause-within c = InForest-right 128 c.args.row c.args.off c.requires.within
