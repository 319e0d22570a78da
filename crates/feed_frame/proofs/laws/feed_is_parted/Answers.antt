use Rattle.feed_frame.proofs.PartedLaws.{feed_is_parted}
use Rattle.feed_frame.proofs.laws.feed_is_parted.Goals as goal

pub returns : goal.returns
returns c = feed_is_parted
