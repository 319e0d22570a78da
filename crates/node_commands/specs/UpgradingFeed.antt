-- What `upgrade feed` answers, and what `follow` answers to what it stored.
use Rattle.std.specs.Prelude.{◌≡◌, ◌⊎◌, ℕ, Bool, true, false, List, [], length, None, IfOk}
use Rattle.uo_base.specs.declared.event.Limits.{Limits}
use Rattle.uo_base.specs.declared.event.Net.{Net}
use Rattle.uo_base.specs.FeedEvent.{FeedEvent}
use Rattle.uo_base.specs.Reading.{IsBytes}
use Rattle.uo_digest.specs.declared.digest.Digest.{Digest}
use Rattle.feed_frame.specs.FeedText.{feed_text}
use Rattle.feed_run.specs.Answer.{Answer}
use Rattle.feed_run.specs.declared.status.Status.TheVariants.{AllAccepted}
use Rattle.feed_run.specs.Status.{is_stop}
use Rattle.compact_node.specs.Node.{NodeState, IsNode}
use Rattle.feed_upgrade.specs.Upgraded.{upgraded_events, old_messages}
use Rattle.feed_upgrade.specs.Upgrader.{upgrade_end}
use Rattle.node_commands.specs.Answers.{answer_with}
use Rattle.node_commands.specs.Follow.{events_for, follow_lines, follow_answer, fresh_for}
use Rattle.node_commands.specs.Following.{fresh_start}
use Rattle.node_commands.specs.Meaning.{Meaning, AnyEvents}
use Rattle.node_commands.specs.Watching.{list_in, IsGood}

-- the frames of some events, each with its message upgraded by the count of entries that a node which follows them has before it
abbrev pub upgraded_text : (List ℕ → Digest) → NodeState → List FeedEvent → List ℕ
upgraded_text H node events = feed_text node.rules.net (upgraded_events H node events)

-- it stores these frames, and prints one line: how many events there were, and how many messages of version 1 beside their blocks; or why the
-- feed ended before
unfoldable pub upgrade_feed_answer : (List ℕ → Digest) → NodeState → List ℕ → Answer
upgrade_feed_answer H node feed =
    let events = events_for node.rules feed in
    answer_with [] (upgraded_text H node events.events) (upgrade_end (length events.events) (old_messages events.events)) events.ending

-- what is stored of a feed
abbrev pub upgraded_feed : (List ℕ → Digest) → NodeState → List ℕ → List ℕ
upgraded_feed H node feed = (upgrade_feed_answer H node feed).out

-- To what is stored of a feed the node answers what it answers to the feed, where this has no bad frame and no more bytes than may be read: the same
-- status, the same lines, and the same state. Of any feed it prints the same lines of the events, and reads what is stored to its end. So it is also
-- where proofs are forged.
pub record FollowsUpgraded (H : List ℕ → Digest) (node : NodeState) (feed : List ℕ) : Type 0 where
  pub whole : IsBytes feed → (events_for node.rules feed).ending ≡ None → follow_answer H node (upgraded_feed H node feed) ≡ follow_answer H node feed
  pub ends : IsBytes feed → (events_for node.rules (upgraded_feed H node feed)).ending ≡ None
  pub lines : IsBytes feed
      → follow_lines H node (events_for node.rules (upgraded_feed H node feed)).events ≡ follow_lines H node (events_for node.rules feed).events

abbrev pub UpgradedFeedsAreFollowed : Type 0
UpgradedFeedsAreFollowed = (H : List ℕ → Digest) (node : NodeState) (feed : List ℕ) → IsNode node → FollowsUpgraded H node feed

-- What `upgrade feed` means. It follows the feed from the start with the watch list that may be named, and prints no line of an event. `follow`
-- answers the same to what it stores, with the same limits, network and list.
abbrev pub upgrading_feed : (List ℕ → Digest) → Limits → Net → (named : Bool) → Meaning
upgrading_feed H limits net named = record {
  uses = record { feed = true; prior = false; watch = named; out = true; steps = true };
  Begun = NodeState;
  Begins = λ prior watch begun. begun ≡ fresh_start limits net (list_in named limits.bytes watch);
  net = λ node. node.rules.net;
  wants = λ begun. AnyEvents;
  lines = λ node events. [];
  frames = upgraded_text H;
  answer = upgrade_feed_answer H;
  Claims = λ inputs. IfOk (list_in named limits.bytes inputs.watch) (λ list. FollowsUpgraded H (fresh_for limits net list) inputs.feed);
  AreGood = λ feed prior watch. IsGood named net limits watch feed;
  Ends = λ status. (status ≡ AllAccepted) ⊎ (is_stop status ≡ true);
}
