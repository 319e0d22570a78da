-- The machine of a feed's upgrade: a node, how many events it was told, and how many messages of version 1 stood beside their blocks.
use Rattle.std.specs.Prelude.{ℕ, ◌+◌, List, [], false}
use Rattle.uo_base.specs.declared.event.Net.{Net}
use Rattle.uo_base.specs.FeedEvent.{FeedEvent}
use Rattle.uo_digest.specs.declared.digest.Digest.{Digest}
use Rattle.feed_frame.specs.FeedText.{event_text}
use Rattle.feed_run.specs.Answer.{Answer}
use Rattle.feed_run.specs.Machine.{Machine}
use Rattle.feed_run.specs.declared.status.Status.TheVariants as Status
use Rattle.node_rules.specs.Machine.{event_in}
use Rattle.compact_node.specs.Node.{NodeState, next_node}
use Rattle.report_lines.specs.declared.line.Line.TheVariants as Line
use Rattle.report_lines.specs.Lines.{whole_line}
use Rattle.message_upgrade.specs.Upgrade.{upgraded_event}
use Rattle.feed_upgrade.specs.Upgraded.{old_beside}

-- what contracts see of `Upgrader`
pub record Upgrading : Type 0 where
  pub net : Net
  pub node : NodeState
  pub events : ℕ
  pub messages : ℕ

-- this node, before the first event
abbrev pub upgrader_of : NodeState → Upgrading
upgrader_of node = record { net = node.rules.net; node = node; events = 0; messages = 0 }

unfoldable pub next_upgrader : (List ℕ → Digest) → Upgrading → FeedEvent → Upgrading
next_upgrader H u event = record {
  net = u.net;
  node = next_node H u.node (event_in event);
  events = u.events + 1;
  messages = u.messages + old_beside event;
}

-- its frames, with the message upgraded by the count of entries before the event
unfoldable pub upgraded_frames : Upgrading → FeedEvent → List ℕ
upgraded_frames u event = event_text u.net (upgraded_event u.node.newest.chain.leaves event)

-- nothing is printed of it
abbrev pub says_nothing : Upgrading → FeedEvent → List ℕ
says_nothing u event = []

-- what is said at the end: how many events and how many messages of version 1 there were
abbrev pub upgrade_end : (events messages : ℕ) → Answer
upgrade_end events messages = record { status = Status.AllAccepted; report = whole_line (Line.UpgradedFeed events messages); out = [] }

-- it takes every event of a feed
abbrev pub upgrade_machine : (List ℕ → Digest) → Machine Upgrading
upgrade_machine H = record {
  next = next_upgrader H;
  said = says_nothing;
  sent = upgraded_frames;
  over = λ u. false;
  at_end = λ u. upgrade_end u.events u.messages;
  count = λ u. u.events;
}
