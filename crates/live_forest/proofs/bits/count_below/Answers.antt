use Rattle.std.specs.Int.{w64}
use Rattle.uo_base.proofs.Bits.{rank_bits}
use Rattle.live_forest.proofs.bits.count_below.Goals as goal

pub returns : goal.returns
returns c = rank_bits w64 c.args.half c.args.number c.requires
