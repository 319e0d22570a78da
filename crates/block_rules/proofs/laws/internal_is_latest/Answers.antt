use Rattle.block_rules.proofs.Latest.{by_letter}
use Rattle.block_rules.proofs.laws.internal_is_latest.Goals as goal

pub returns : goal.returns
returns c = by_letter
