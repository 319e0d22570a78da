-- What holds of a feed with the messages upgraded.
use Rattle.std.specs.Prelude.{◌≡◌, ℕ, ◌≤◌, List, length, map}
use Rattle.uo_base.specs.declared.event.Net.{Net}
use Rattle.uo_base.specs.Reading.{IsBytes}
use Rattle.uo_digest.specs.declared.digest.Digest.{Digest}
use Rattle.feed_frame.specs.Events.{events_of}
use Rattle.feed_frame.specs.FeedText.{feed_text, HasEvents}
use Rattle.node_rules.specs.Machine.{event_in}
use Rattle.node_rules.specs.Machine as Chain
use Rattle.node_rules.specs.Reading.{message_in}
use Rattle.block_codec.specs.Block.{Block}
use Rattle.std.specs.declared.option.Option.{Option}
use Rattle.compact_node.specs.Node.{NodeState, IsNode, node_verdict, next_node}
use Rattle.compact_node.specs.Throughout.{verdicts_on, node_after}
use Rattle.message_upgrade.specs.Upgrade.{upgraded}
use Rattle.feed_upgrade.specs.Upgraded.{upgraded_events}

-- Of a block with a message and with that message upgraded a node says the same, with the details, and keeps the same then, also where the message is
-- forged.
pub record IsTakenAlike (H : List ℕ → Digest) (s : NodeState) (b : Option Block) (message : List ℕ) : Type 0 where
  pub said : node_verdict H s (Chain.BlockCame b (message_in (upgraded s.newest.chain.leaves message)))
      ≡ node_verdict H s (Chain.BlockCame b (message_in message))
  pub kept : next_node H s (Chain.BlockCame b (message_in (upgraded s.newest.chain.leaves message)))
      ≡ next_node H s (Chain.BlockCame b (message_in message))

abbrev pub UpgradedIsTakenAlike : Type 0
UpgradedIsTakenAlike = (H : List ℕ → Digest) (s : NodeState) (b : Option Block) (message : List ℕ) → IsNode s → IsBytes message
    → IsTakenAlike H s b message

-- The events of a feed with the messages upgraded: their text is read as these events, it has no more bytes than the feed, and a node says of
-- each what it says of the event of the feed, and keeps the same then.
pub record IsFollowedAlike (H : List ℕ → Digest) (s : NodeState) (net : Net) (limit : ℕ) (feed : List ℕ) : Type 0 where
  pub read :
      let events = upgraded_events H s (events_of net limit feed).events in
      HasEvents net limit (feed_text net events) events
  pub no_longer : length (feed_text net (upgraded_events H s (events_of net limit feed).events)) ≤ length feed
  pub as_many : length (upgraded_events H s (events_of net limit feed).events) ≡ length (events_of net limit feed).events
  pub said : verdicts_on H s (map event_in (upgraded_events H s (events_of net limit feed).events))
      ≡ verdicts_on H s (map event_in (events_of net limit feed).events)
  pub kept : node_after H s (map event_in (upgraded_events H s (events_of net limit feed).events))
      ≡ node_after H s (map event_in (events_of net limit feed).events)

abbrev pub UpgradedIsFollowedAlike : Type 0
UpgradedIsFollowedAlike = (H : List ℕ → Digest) (s : NodeState) (net : Net) (limit : ℕ) (feed : List ℕ) → IsNode s
    → IsBytes feed → IsFollowedAlike H s net limit feed
