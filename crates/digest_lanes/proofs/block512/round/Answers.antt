use Rattle.std.proofs.Common.{arith, refl}
use Rattle.digest_lanes.proofs.LaneLemmas.{word-lane}
use Rattle.digest_lanes.proofs.block512.round.Goals as goal

pub returns : goal.returns
returns g c j h =
    let word = g.W.Words.word in
    let length-v = c.well_formed.0.1.0.1 in
    rw (
      word-lane word c.args.v j 0 c.index-v-0.result (omega (arith, length-v)),
      word-lane word c.args.v j 1 c.index-v-1.result (omega (arith, length-v)),
      word-lane word c.args.v j 2 c.index-v-2.result (omega (arith, length-v)),
      word-lane word c.args.v j 3 c.index-v-3.result (omega (arith, length-v)),
      word-lane word c.args.v j 4 c.index-v-4.result (omega (arith, length-v)),
      word-lane word c.args.v j 5 c.index-v-5.result (omega (arith, length-v)),
      word-lane word c.args.v j 6 c.index-v-6.result (omega (arith, length-v)),
      word-lane word c.args.v j 7 c.index-v-7.result (omega (arith, length-v)),
      c.add-first.ensures j h,
      c.add-fifth.ensures j h,
      c.add-temp2.ensures j h,
      c.add-temp1.ensures j h,
      c.add-keyed.ensures j h,
      c.splat.ensures j h,
      c.add-half.ensures j h,
      c.add.ensures j h,
      c.maj-most.ensures j h,
      c.big_sigma0-sum0.ensures j h,
      c.ch-choice.ensures j h,
      c.big_sigma1-sum1.ensures j h,
    ) refl
