use Rattle.std.proofs.Common.{arith, refl}
use Rattle.digest_lanes.proofs.LaneLemmas.{word-lane}
use Rattle.digest_lanes.proofs.block512.add_state.Goals as goal

pub returns : goal.returns
returns g c j h =
    let word = g.W.Words.word in
    let length-h = c.well_formed.0.1.0.1 in
    let length-v = c.well_formed.1.0.1.0.1 in
    rw (
      word-lane word c.args.h j 0 c.index-h-0.result (omega (arith, length-h)),
      word-lane word c.args.h j 1 c.index-h-1.result (omega (arith, length-h)),
      word-lane word c.args.h j 2 c.index-h-2.result (omega (arith, length-h)),
      word-lane word c.args.h j 3 c.index-h-3.result (omega (arith, length-h)),
      word-lane word c.args.h j 4 c.index-h-4.result (omega (arith, length-h)),
      word-lane word c.args.h j 5 c.index-h-5.result (omega (arith, length-h)),
      word-lane word c.args.h j 6 c.index-h-6.result (omega (arith, length-h)),
      word-lane word c.args.h j 7 c.index-h-7.result (omega (arith, length-h)),
      word-lane word c.args.v j 0 c.index-v-0.result (omega (arith, length-v)),
      word-lane word c.args.v j 1 c.index-v-1.result (omega (arith, length-v)),
      word-lane word c.args.v j 2 c.index-v-2.result (omega (arith, length-v)),
      word-lane word c.args.v j 3 c.index-v-3.result (omega (arith, length-v)),
      word-lane word c.args.v j 4 c.index-v-4.result (omega (arith, length-v)),
      word-lane word c.args.v j 5 c.index-v-5.result (omega (arith, length-v)),
      word-lane word c.args.v j 6 c.index-v-6.result (omega (arith, length-v)),
      word-lane word c.args.v j 7 c.index-v-7.result (omega (arith, length-v)),
      c.add.ensures j h,
      c.add-2.ensures j h,
      c.add-3.ensures j h,
      c.add-4.ensures j h,
      c.add-5.ensures j h,
      c.add-6.ensures j h,
      c.add-7.ensures j h,
      c.add-8.ensures j h,
    ) refl
