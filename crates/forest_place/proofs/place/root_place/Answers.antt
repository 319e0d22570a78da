use Rattle.std.proofs.Common.{arith}
use Rattle.forest_place.proofs.Positions.{slot_small}
use Rattle.forest_place.proofs.place.root_place.Goals as goal

pub overflow_shr-result : goal.overflow_shr-result
overflow_shr-result c = omega (arith, slot_small c.args.n c.args.row 40 c.requires.slot c.requires.small)
