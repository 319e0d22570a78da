-- The events of a feed, as contracts see them.
use Rattle.std.specs.Prelude.{ℕ, List, Option, option_copied}
use Rattle.uo_base.specs.declared.event.Event.{Event}
use Rattle.uo_base.specs.declared.event.Event.TheVariants.{Block, Rollback, Stray}

-- an event of a feed
pub data FeedEvent : Type 0 where
  -- a block's bytes, and the message of the proof right before it
  BlockCame : List ℕ → Option (List ℕ) → FeedEvent
  -- the chain goes back by this many blocks
  RollbackCame : ℕ → FeedEvent
  -- a proof that no block follows
  StrayCame : FeedEvent

-- what an event holds
abbrev pub event_of : Event → FeedEvent
event_of (Block block message) = BlockCame block.now (option_copied message)
event_of (Rollback count) = RollbackCame count
event_of Stray = StrayCame
