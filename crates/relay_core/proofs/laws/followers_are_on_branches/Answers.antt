use Rattle.relay_core.proofs.Acting.{followers_are_on_branches}
use Rattle.relay_core.proofs.laws.followers_are_on_branches.Goals as goal

pub returns : goal.returns
returns c = followers_are_on_branches
