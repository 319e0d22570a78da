use Rattle.std.proofs.Common.{arith}
use Rattle.digest_lanes.proofs.Pair512Lemmas.{half_word, pair_block}
use Rattle.digest_lanes.proofs.pairs512.pair_words.Goals as goal

pub returns : goal.returns
returns g c j h = λ l r ll lr near far.
    let word = g.W.Words.word in
    let length-left = c.well_formed.0.1.0.1 in
    let length-right = c.well_formed.1.0.1.0.1 in
    rw (
      half_word word c.args.left j 0 c.index-left-0.result l length-left (omega arith) near,
      half_word word c.args.left j 1 c.index-left-1.result l length-left (omega arith) near,
      half_word word c.args.left j 2 c.index-left-2.result l length-left (omega arith) near,
      half_word word c.args.left j 3 c.index-left-3.result l length-left (omega arith) near,
      half_word word c.args.right j 0 c.index-right-0.result r length-right (omega arith) far,
      half_word word c.args.right j 1 c.index-right-1.result r length-right (omega arith) far,
      half_word word c.args.right j 2 c.index-right-2.result r length-right (omega arith) far,
      half_word word c.args.right j 3 c.index-right-3.result r length-right (omega arith) far,
      c.splat-bit.ensures j h,
      c.splat-none.ensures j h,
      c.splat-bits.ensures j h,
    ) (pair_block l r ll lr)
