-- The feed has not failed, and its limit stays.
use Rattle.std.proofs.Common.{◌≡◌, ◌-◌, false}
use Rattle.feed_frame.specs.FeedState.{limit_of}
use Rattle.format_tests.proofs.tests.feeds.drain.Given as goal

abbrev pub invariant-loop-event : goal.invariant-loop-event
invariant-loop-event g l = record { sound : l.feed.failed ≡ false; limit : limit_of l.feed ≡ l.limit }

abbrev pub decreases-loop-event : goal.decreases-loop-event
decreases-loop-event g l = l.limit - l.feed.offset
