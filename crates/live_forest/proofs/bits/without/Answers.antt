use Rattle.std.specs.Int.{w128}
use Rattle.uo_base.proofs.Bits.{without_is}
use Rattle.live_forest.proofs.bits.without.Goals as goal

pub returns : goal.returns
returns c = without_is w128 c.args.bits c.args.number c.ranges.bits.fits c.requires
