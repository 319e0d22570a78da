use Rattle.digest_lanes.proofs.LaneLemmas.{splat_lane}
use Rattle.digest_lanes.proofs.words512.U64x2Words.splat.Goals as goal

pub returns : goal.returns
returns c = splat_lane 2 c.args.all
