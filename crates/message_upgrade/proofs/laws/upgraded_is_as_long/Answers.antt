use Rattle.message_upgrade.proofs.Upgrading.{upgraded_long}
use Rattle.message_upgrade.proofs.laws.upgraded_is_as_long.Goals as goal

pub returns : goal.returns
returns c = upgraded_long
