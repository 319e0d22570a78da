use Rattle.block_codec.proofs.PairLaws.{eight_pairs}
use Rattle.block_codec.proofs.merkle_tree.pairs_from.Goals as goal

pub returns : goal.returns
returns c = eight_pairs _ _ _ c.requires
