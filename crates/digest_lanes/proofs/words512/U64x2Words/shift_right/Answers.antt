use Rattle.std.proofs.Common.{◌/◌, ◌^◌}
use Rattle.digest_lanes.proofs.LaneLemmas.{with_word}
use Rattle.digest_lanes.proofs.words512.U64x2Words.shift_right.Goals as goal

pub returns : goal.returns
returns c = with_word (λ x n. x / 2 ^ n) 2 c.args.n c.args.self c.fits-self.0
