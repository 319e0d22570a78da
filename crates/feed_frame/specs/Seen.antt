-- What came of a feed, as events.
use Rattle.std.specs.Prelude.{ℕ, List, true, false, Option, Some, None, Result, Ok, Err}
use Rattle.uo_base.specs.FeedEvent.{FeedEvent, BlockCame, RollbackCame, StrayCame}
use Rattle.feed_frame.specs.declared.came.Came.{Came}
use Rattle.feed_frame.specs.declared.came.Came.TheVariants.{Block, Rollback, Stray, End}
use Rattle.feed_frame.specs.declared.fault.FeedFault.{FeedFault}

-- the event that came, with these bytes of its block and of its message
abbrev pub event_came : (block message : List ℕ) → Came → Option FeedEvent
event_came block message (Block true) = Some (BlockCame block (Some message))
event_came block message (Block false) = Some (BlockCame block None)
event_came block message (Rollback count) = Some (RollbackCame count)
event_came block message Stray = Some StrayCame
event_came block message End = None

abbrev pub seen : (block message : List ℕ) → Result Came FeedFault → Result (Option FeedEvent) FeedFault
seen block message (Ok came) = Ok (event_came block message came)
seen block message (Err fault) = Err fault
