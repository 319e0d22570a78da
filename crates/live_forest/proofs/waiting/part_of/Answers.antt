use Rattle.std.proofs.Common.{sym}
use Rattle.forest_place.proofs.Parts.{parts-suc}
use Rattle.live_forest.proofs.waiting.part_of.Goals as goal

pub returns : goal.returns
returns c = sym (parts-suc c.args.number c.args.row)
