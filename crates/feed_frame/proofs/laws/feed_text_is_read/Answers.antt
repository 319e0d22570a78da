use Rattle.feed_frame.proofs.CutFeedLaws.{feed_cut}
use Rattle.feed_frame.proofs.FeedTextLaws.{feed_read}
use Rattle.feed_frame.proofs.laws.feed_text_is_read.Goals as goal

pub returns-clause-whole : goal.returns-clause-whole
returns-clause-whole c = λ net limit events all room. feed_read net limit events all room

pub returns-clause-cut : goal.returns-clause-cut
returns-clause-cut c = λ net limit events all past. feed_cut net limit events all past
