use Rattle.feed_upgrade.proofs.Following.{followed_alike}
use Rattle.feed_upgrade.proofs.laws.upgraded_is_followed_alike.Goals as goal

pub returns : goal.returns
returns c = λ H s net limit feed is bytes. followed_alike H net s limit feed is bytes
