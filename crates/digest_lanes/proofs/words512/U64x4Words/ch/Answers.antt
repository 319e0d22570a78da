use Rattle.std.proofs.Common.{w64}
use Rattle.digest_lanes.proofs.ChMaj.{ch_short}
use Rattle.digest_lanes.proofs.LaneLemmas.{lane_below}
use Rattle.digest_lanes.proofs.words512.U64x4Words.ch.Goals as goal

pub returns : goal.returns
returns c j h =
    rw (c.xor-2.ensures j h, c.and.ensures j h, c.xor.ensures j h)
    (ch_short w64 _ _ _ (lane_below 4 c.args.self j c.fits-self.0 c.fits-self.1 h) (lane_below 4 c.args.y j c.fits-y.0 c.fits-y.1 h)
    (lane_below 4 c.args.z j c.fits-z.0 c.fits-z.1 h))
