use Rattle.block_codec.proofs.PairLaws.{NoRepeat}
use Rattle.block_codec.proofs.merkle_tree.first_repeat.Given as goal

abbrev pub invariant-loop-pair : goal.invariant-loop-pair
invariant-loop-pair l = NoRepeat l.level l.pair
