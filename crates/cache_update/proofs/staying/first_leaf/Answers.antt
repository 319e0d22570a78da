use Rattle.std.proofs.Common.{arith}
use Rattle.forest_place.proofs.Positions.{row_small}
use Rattle.cache_update.proofs.staying.first_leaf.Goals as goal

pub overflow_shl-result : goal.overflow_shl-result
overflow_shl-result c = let low = row_small c.args.n c.args.place.row c.args.place.off 40 c.requires.within c.requires.small in omega (arith, low)

pub returns : goal.returns
returns c = let low = row_small c.args.n c.args.place.row c.args.place.off 40 c.requires.within c.requires.small in omega (arith, low)
