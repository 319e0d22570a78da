use Rattle.std.proofs.Common.{arith}
use Rattle.forest_place.proofs.Positions.{row_small}
use Rattle.forest_place.proofs.place.is_root.Goals as goal

pub overflow_shr-result : goal.overflow_shr-result
overflow_shr-result c = omega (arith, row_small c.args.n c.args.place.row c.args.place.off 40 c.requires.within c.requires.small)
