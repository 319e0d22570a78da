use Rattle.std.proofs.Common.{w64}
use Rattle.digest_lanes.proofs.ChMaj.{ch_short}
use Rattle.digest_lanes.proofs.words512.U64Words.ch.Goals as goal

pub returns : goal.returns
returns c j h = ch_short w64 _ _ _ c.ranges.self.fits c.ranges.y.fits c.ranges.z.fits
