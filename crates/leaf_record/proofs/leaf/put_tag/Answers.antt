use Rattle.std.proofs.Common.{rules}
use Rattle.leaf_record.proofs.LeafLaws.{tag_is, length-tag}
use Rattle.leaf_record.proofs.leaf.put_tag.Goals as goal

pub returns-in_err-extend_from_slice-clause-full : goal.returns-in_err-extend_from_slice-clause-full
returns-in_err-extend_from_slice-clause-full c = rw length-tag (search rules)

pub returns-clause-ok : goal.returns-clause-ok
returns-clause-ok c = rw (← tag_is) (search rules)
