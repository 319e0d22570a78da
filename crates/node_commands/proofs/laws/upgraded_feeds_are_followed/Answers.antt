use Rattle.node_commands.proofs.UpgradedFeeds.{upgraded_feeds_are_followed}
use Rattle.node_commands.proofs.laws.upgraded_feeds_are_followed.Goals as goal

pub returns : goal.returns
returns c = upgraded_feeds_are_followed
