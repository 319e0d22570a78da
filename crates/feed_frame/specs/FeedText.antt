-- The text of a list of events, and that it is read again.
use Rattle.std.specs.Prelude.{◌≡◌, ◌⊎◌, ℕ, ◌<◌, ◌≤◌, ◌^◌, List, [], ◌∷◌, ◌++◌, length, Option, Some, None}
use Rattle.std.specs.Int.{w32, to_le_bytes}
use Rattle.std.specs.List.{flat_map, AllByRecursion}
use Rattle.uo_base.specs.declared.event.Net.{Net}
use Rattle.uo_base.specs.FeedEvent.{FeedEvent, BlockCame, RollbackCame, StrayCame}
use Rattle.uo_base.specs.Reading.{IsBytes}
use Rattle.feed_frame.specs.declared.fault.FeedFault.TheVariants.{Limit}
use Rattle.feed_frame.specs.Events.{events_of}
use Rattle.feed_frame.specs.Frames.{block_magic, proof_magic, rollback_magic, most_block, most_proof}
use Rattle.feed_frame.specs.Written.{frame_text}

abbrev pub proof_frame_text : Option (List ℕ) → List ℕ
proof_frame_text None = []
proof_frame_text (Some message) = frame_text proof_magic message

-- the frame of a block, behind that of its proof, or the frame of a rollback; of a stray, the frame of an empty proof
unfoldable pub event_text : Net → FeedEvent → List ℕ
event_text net (BlockCame block message) = proof_frame_text message ++ frame_text (block_magic net) block
event_text net (RollbackCame count) = frame_text rollback_magic (to_le_bytes w32 count)
event_text net StrayCame = frame_text proof_magic []

-- the frames of events, one after the other
abbrev pub feed_text : Net → List FeedEvent → List ℕ
feed_text net events = flat_map (event_text net) events

-- ---- which events have frames

abbrev pub HasProofFrame : Option (List ℕ) → Type 0
HasProofFrame None = Unit {0}
HasProofFrame (Some message) = length message ≤ most_proof

-- no part is longer than its frame may be, and it is no stray
abbrev pub HasFrames : FeedEvent → Type 0
HasFrames (BlockCame block message) = (length block ≤ most_block) × HasProofFrame message
HasFrames (RollbackCame count) = count < 2 ^ 32
HasFrames StrayCame = ⊥

-- a feed has these events, and is read to its end
pub record HasEvents (net : Net) (limit : ℕ) (feed : List ℕ) (events : List FeedEvent) : Type 0 where
  pub all : (events_of net limit feed).events ≡ events
  pub ends : (events_of net limit feed).ending ≡ None

-- The text of events that have frames is read as these events, where it is no longer than may be read.
abbrev pub FeedTextIsRead : Type 0
FeedTextIsRead = (net : Net) (limit : ℕ) (events : List FeedEvent) → AllByRecursion HasFrames events → length (feed_text net events) ≤ limit
    → HasEvents net limit (feed_text net events) events

-- a feed that has these events goes on past the limit: the first of them come, and behind them a stray where the limit stands between a proof
-- and the end of its block
pub record HasFirstEvents (net : Net) (limit : ℕ) (feed : List ℕ) (events : List FeedEvent) : Type 0 where
  pub front : List FeedEvent
  pub later : List FeedEvent
  pub split : events ≡ front ++ later
  pub strays : List FeedEvent
  pub one : (strays ≡ []) ⊎ (strays ≡ StrayCame ∷ [])
  pub all : (events_of net limit feed).events ≡ front ++ strays
  pub ends : (events_of net limit feed).ending ≡ Some (Limit limit)

-- Where it is longer, the first of the events are read, up to the limit.
abbrev pub FeedTextIsCut : Type 0
FeedTextIsCut = (net : Net) (limit : ℕ) (events : List FeedEvent) → AllByRecursion HasFrames events → limit < length (feed_text net events)
    → HasFirstEvents net limit (feed_text net events) events

-- ---- which lists of events have frames, where some are strays

-- what may come behind a stray: no block without a message, since a proof in front of it would be that of the block
abbrev pub MayFollowStray : List FeedEvent → Type 0
MayFollowStray [] = Unit {0}
MayFollowStray (BlockCame block None ∷ events) = ⊥
MayFollowStray (BlockCame block (Some message) ∷ events) = Unit {0}
MayFollowStray (RollbackCame count ∷ events) = Unit {0}
MayFollowStray (StrayCame ∷ events) = Unit {0}

-- an event that has frames, or a stray, in front of others
abbrev pub CanStandBefore : FeedEvent → List FeedEvent → Type 0
CanStandBefore (BlockCame block message) events = HasFrames (BlockCame block message)
CanStandBefore (RollbackCame count) events = HasFrames (RollbackCame count)
CanStandBefore StrayCame events = MayFollowStray events

-- so each event stands before those behind it
abbrev pub CanBeAFeed : List FeedEvent → Type 0
CanBeAFeed [] = Unit {0}
CanBeAFeed (event ∷ events) = CanStandBefore event events × CanBeAFeed events

-- The text of such events is read as these events, where it is no longer than may be read.
abbrev pub EventsAreReadAgain : Type 0
EventsAreReadAgain = (net : Net) (limit : ℕ) (events : List FeedEvent) → CanBeAFeed events → length (feed_text net events) ≤ limit
    → HasEvents net limit (feed_text net events) events

-- The events of each feed are such, and their text is no longer than the feed, and than may be read of it.
pub record CanBeRewritten (net : Net) (limit : ℕ) (feed : List ℕ) : Type 0 where
  pub events : CanBeAFeed (events_of net limit feed).events
  pub no_longer : length (feed_text net (events_of net limit feed).events) ≤ length feed
  pub within : length (feed_text net (events_of net limit feed).events) ≤ limit

abbrev pub EachFeedIsRewritten : Type 0
EachFeedIsRewritten = (net : Net) (limit : ℕ) (feed : List ℕ) → IsBytes feed → CanBeRewritten net limit feed
