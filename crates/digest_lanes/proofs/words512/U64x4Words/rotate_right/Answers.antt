use Rattle.digest_lanes.proofs.LaneLemmas.{shifts_rotate}
use Rattle.digest_lanes.proofs.words512.U64x4Words.rotate_right.Goals as goal

pub returns : goal.returns
returns c = shifts_rotate 4 c.args.n c.requires.some c.requires.below c.args.self c.fits-self.0
