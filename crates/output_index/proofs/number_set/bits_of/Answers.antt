use Rattle.std.specs.Int.{w64}
use Rattle.uo_base.proofs.Bits.{rank_all}
use Rattle.output_index.proofs.number_set.bits_of.Goals as goal

pub returns-clause-is : goal.returns-clause-is
returns-clause-is c = rank_all w64 c.args.word c.ranges.word.fits
