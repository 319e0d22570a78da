use Rattle.state_text.proofs.CacheLaws as by
use Rattle.state_text.proofs.laws.standing_is_stored.Goals as goal

pub returns : goal.returns
returns c = by.standing_is_stored
