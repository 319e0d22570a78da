use Rattle.compact_node.proofs.Counting.{levels_told, kept_throughout}
use Rattle.compact_node.proofs.laws.verdicts_tell_levels.Goals as goal

pub returns-clause-told : goal.returns-clause-told
returns-clause-told c = levels_told

pub returns-clause-counted : goal.returns-clause-counted
returns-clause-counted c = kept_throughout
