use Rattle.relay_core.proofs.Changing.{outcomes_tell_changes}
use Rattle.relay_core.proofs.laws.outcomes_tell_changes.Goals as goal

pub returns : goal.returns
returns c = outcomes_tell_changes
