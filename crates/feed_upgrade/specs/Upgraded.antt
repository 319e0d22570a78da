-- The events of a feed with the messages upgraded.
use Rattle.std.specs.Prelude.{ℕ, ◌+◌, List, [], ◌∷◌, Option, Some, None, if◌then◌else◌}
use Rattle.uo_base.specs.FeedEvent.{FeedEvent, BlockCame, RollbackCame, StrayCame}
use Rattle.uo_digest.specs.declared.digest.Digest.{Digest}
use Rattle.node_rules.specs.Machine.{event_in}
use Rattle.compact_node.specs.Node.{NodeState, next_node}
use Rattle.message_upgrade.specs.Upgrade.{is_old, upgraded_event}

-- each by the count of entries before it, of a node that follows the events
abbrev pub upgraded_events : (List ℕ → Digest) → NodeState → List FeedEvent → List FeedEvent
upgraded_events H s [] = []
upgraded_events H s (event ∷ events) =
    upgraded_event s.newest.chain.leaves event ∷ upgraded_events H (next_node H s (event_in event)) events

-- how many messages of version 1 stand beside a block: one or none
abbrev pub old_in : Option (List ℕ) → ℕ
old_in None = 0
old_in (Some message) = if is_old message then 1 else 0

-- how many stand beside the block of an event
abbrev pub old_beside : FeedEvent → ℕ
old_beside (BlockCame block message) = old_in message
old_beside (RollbackCame count) = 0
old_beside StrayCame = 0

-- how many stand beside the blocks of these events
abbrev pub old_messages : List FeedEvent → ℕ
old_messages [] = 0
old_messages (event ∷ events) = old_beside event + old_messages events
