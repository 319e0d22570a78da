use Rattle.relay_core.proofs.Acting.{acts_are_followed}
use Rattle.relay_core.proofs.laws.acts_are_followed.Goals as goal

pub returns : goal.returns
returns c = acts_are_followed
