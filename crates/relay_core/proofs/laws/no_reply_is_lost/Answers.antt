use Rattle.relay_core.proofs.Acting.{no_reply_is_lost}
use Rattle.relay_core.proofs.laws.no_reply_is_lost.Goals as goal

pub returns : goal.returns
returns c = no_reply_is_lost
