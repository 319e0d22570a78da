use Rattle.relay_core.proofs.Acting.{replies_are_never_refused}
use Rattle.relay_core.proofs.laws.replies_are_never_refused.Goals as goal

pub returns : goal.returns
returns c = replies_are_never_refused
