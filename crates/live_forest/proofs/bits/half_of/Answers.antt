use Rattle.std.proofs.Common.{arith}
use Rattle.live_forest.proofs.Bitmaps.{half_low, half_high}
use Rattle.live_forest.proofs.bits.half_of.Goals as goal

pub returns-then-number-lt64 : goal.returns-then-number-lt64
returns-then-number-lt64 c = half_low c.args.bits c.args.number c.if-number-lt64.true

pub returns-else-number-lt64 : goal.returns-else-number-lt64
returns-else-number-lt64 c = half_high c.args.bits c.args.number c.ranges.bits.fits (omega (arith, c.if-number-lt64.false)) c.requires
