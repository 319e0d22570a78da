use Rattle.std.specs.Int.{w64}
use Rattle.uo_base.proofs.Bits.{with_is}
use Rattle.output_index.proofs.number_set.with.Goals as goal

pub returns : goal.returns
returns c = with_is w64 c.args.word c.args.bit c.requires
