use Rattle.std.specs.Int.{w64}
use Rattle.uo_base.proofs.Bits.{rank_bits}
use Rattle.output_index.proofs.number_set.bits_below.Goals as goal

pub returns-clause-is : goal.returns-clause-is
returns-clause-is c = rank_bits w64 c.args.word c.args.bit c.requires
