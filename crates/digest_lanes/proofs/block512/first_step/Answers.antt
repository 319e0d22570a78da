use Rattle.std.proofs.Common.{◌≡◌, arith, length, refl, sym}
use Rattle.sha2.proofs.Schedule512.{rounds_first}
use Rattle.digest_lanes.specs.Lanes.{lane_of}
use Rattle.digest_lanes.proofs.LaneLemmas.{word-lane}
use Rattle.digest_lanes.proofs.block512.first_step.Goals as goal

pub returns : goal.returns
returns g c = λ j below b h window held.
    let word = g.W.Words.word in
    let long : length c.args.w.now ≡ 16 = c.told-w in
    rounds_first b h (lane_of word j c.args.w.now) (lane_of word j c.args.v) c.args.t _ _ _ c.requires window held refl
    (sym (word-lane word c.args.w.now j c.args.t c.index-w-t.result (omega (arith, long)))) (c.round.ensures j below)
