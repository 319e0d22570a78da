use Rattle.leaf_record.proofs.LeafLaws.{leaf_long}
use Rattle.leaf_record.proofs.laws.leaf_text_is_long.Goals as goal

pub returns : goal.returns
returns c = leaf_long
