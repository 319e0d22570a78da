use Rattle.block_codec.proofs.BlockViewLaws.{ids_below}
use Rattle.block_codec.proofs.merkle_tree.merkle.Goals as goal

pub merkle_root_of-requires-clause-few : goal.merkle_root_of-requires-clause-few
merkle_root_of-requires-clause-few c = rw c.deref.ensures.value (ids_below _ _ _ c.block.invariant.0)
