use Rattle.std.specs.Int.{w64}
use Rattle.uo_base.proofs.Bits.{without_is}
use Rattle.output_index.proofs.number_set.without.Goals as goal

pub returns : goal.returns
returns c = without_is w64 c.args.word c.args.bit c.ranges.word.fits c.requires
