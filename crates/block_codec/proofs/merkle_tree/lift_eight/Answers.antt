use Rattle.std.proofs.Common.{◌≡◌, ◌+◌, ◌-◌, ◌∙◌, arith}
use Rattle.block_codec.proofs.PairLaws.{lifted-eight}
use Rattle.block_codec.proofs.merkle_tree.lift_eight.Goals as goal

pub returns : goal.returns
returns c = λ start lifted.
    let size : c.args.pair + 8 - c.args.pair ≡ 8 = omega arith in
    let is = c.copy_from_slice.ensures.after ∙ c.sha256d_pairs.ensures in
    rw size (lifted-eight start c.args.hashes.now _ c.args.pair _ c.requires (omega (arith, c.copy_from_slice.ensures.len, c.copy_from_slice.auto))
    c.pairs_from-pairs.ensures is lifted)
