use Rattle.std.proofs.Common.{◌≡◌, ◌%◌, ◌+◌, arith, refl, length}
use Rattle.digest_lanes.proofs.LaneLemmas.{word-lane}
use Rattle.digest_lanes.proofs.block512.next_word.Goals as goal

pub returns : goal.returns
returns g c =
    let word = g.W.Words.word in
    let w = c.args.w.now in
    let at : c.args.place % 16 ≡ c.args.place = omega arith in
    let long : length w ≡ 16 = c.told-w in
    record {
      value = λ j h.
          rw (
            at,
            word-lane word w j ((c.args.place + 14) % 16) c.index-w-place.result (omega (arith, long)),
            word-lane word w j ((c.args.place + 9) % 16) c.index-w-place-2.result (omega (arith, long)),
            word-lane word w j ((c.args.place + 1) % 16) c.index-w-place-3.result (omega (arith, long)),
            word-lane word w j c.args.place c.index-w-place-4.result (omega (arith, long)),
            c.add-word.ensures j h,
            c.add.ensures j h,
            c.add-near.ensures j h,
            c.small_sigma1.ensures j h,
            c.small_sigma0.ensures j h,
          ) refl;
      window = refl;
    }
