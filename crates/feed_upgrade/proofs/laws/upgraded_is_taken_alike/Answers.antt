use Rattle.feed_upgrade.proofs.Following.{taken_alike}
use Rattle.feed_upgrade.proofs.laws.upgraded_is_taken_alike.Goals as goal

pub returns : goal.returns
returns c = taken_alike
