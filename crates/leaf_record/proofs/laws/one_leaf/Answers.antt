use Rattle.leaf_record.proofs.LeafLaws.{one_leaf}
use Rattle.leaf_record.proofs.laws.one_leaf.Goals as goal

pub returns : goal.returns
returns c = one_leaf
