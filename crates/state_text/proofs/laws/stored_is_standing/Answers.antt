use Rattle.state_text.proofs.CacheLaws as by
use Rattle.state_text.proofs.laws.stored_is_standing.Goals as goal

pub returns : goal.returns
returns c = by.stored_is_standing
