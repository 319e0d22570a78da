use Rattle.std.specs.Int.{w128}
use Rattle.uo_base.proofs.Bits.{with_is}
use Rattle.live_forest.proofs.bits.with.Goals as goal

pub returns : goal.returns
returns c = with_is w128 c.args.bits c.args.number c.requires
