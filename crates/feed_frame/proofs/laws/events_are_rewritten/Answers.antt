use Rattle.feed_frame.proofs.Rewritten.{read_again_all, rewritten}
use Rattle.feed_frame.proofs.laws.events_are_rewritten.Goals as goal

pub returns-clause-read : goal.returns-clause-read
returns-clause-read c = read_again_all

pub returns-clause-rewritten : goal.returns-clause-rewritten
returns-clause-rewritten c = rewritten
