use Rattle.relay_core.proofs.Levelled.{serials_are_of_levels}
use Rattle.relay_core.proofs.laws.serials_are_of_levels.Goals as goal

pub returns : goal.returns
returns c = serials_are_of_levels
