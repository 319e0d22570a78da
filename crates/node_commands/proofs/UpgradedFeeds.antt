-- What `upgrade feed` stores, and that it is followed as the feed is.
use Rattle.std.proofs.Common.{◌≡◌, ℕ, suc, ◌+◌, ◌<◌, ◌≤◌, ◌^◌, Bool, List, [], ◌∷◌, ◌++◌, length, map, Option, Some, None, refl, sym, ap, subst, ◌∙◌}
use Rattle.std.proofs.Common.{arith, append-nil}
use Rattle.std.specs.List.{flat_map, list_any}
use Rattle.uo_base.specs.declared.event.Limits.{Limits}
use Rattle.uo_base.specs.declared.event.Net.{Net}
use Rattle.uo_base.specs.FeedEvent.{FeedEvent}
use Rattle.uo_base.specs.Reading.{IsBytes}
use Rattle.uo_digest.specs.declared.digest.Digest.{Digest}
use Rattle.block_rules.specs.declared.verdict.Verdict.{Verdict}
use Rattle.feed_frame.specs.declared.fault.FeedFault.{FeedFault}
use Rattle.feed_frame.specs.Events.{Events, events_of}
use Rattle.feed_frame.specs.FeedText.{feed_text}
use Rattle.feed_run.specs.Answer.{Answer}
use Rattle.feed_run.specs.declared.status.Status.{Status}
use Rattle.feed_run.specs.Machine.{left_by, said_by, sent_by}
use Rattle.node_rules.specs.Machine.{event_in}
use Rattle.compact_node.specs.Node.{NodeState, IsNode}
use Rattle.compact_node.specs.State.{stored_text}
use Rattle.compact_node.specs.Throughout.{verdicts_on, node_after}
use Rattle.compact_node.proofs.Throughout.{fresh-node}
use Rattle.report_lines.specs.declared.line.Line.{Line}
use Rattle.feed_upgrade.specs.Laws.{IsFollowedAlike}
use Rattle.feed_upgrade.specs.Upgraded.{upgraded_events, old_beside, old_messages}
use Rattle.feed_upgrade.specs.Upgrader.{Upgrading, upgrader_of, next_upgrader, upgraded_frames, upgrade_end, upgrade_machine}
use Rattle.feed_upgrade.proofs.Following.{followed_alike}
use Rattle.node_commands.specs.Meaning.{AnyEvents}
use Rattle.node_commands.specs.Answers.{bad_end, last_of, answer_with, served_feed}
use Rattle.node_commands.specs.Follow.{line_of, follow_lines, events_for, chain_events, follow_answer, fresh_for}
use Rattle.node_commands.specs.Machine.{end_by, is_refused}
use Rattle.node_commands.specs.Runs.{Serves}
use Rattle.node_commands.specs.UpgradingFeed.{upgraded_text, upgrade_feed_answer, upgraded_feed, FollowsUpgraded, UpgradedFeedsAreFollowed}
use Rattle.node_commands.proofs.ServeLemmas.{Serves-same}

module _ (H : List ℕ → Digest) where
  -- ---- the machine, by its events

  abbrev with : Upgrading → List FeedEvent → (count messages : ℕ) → Upgrading
  with u events count messages = record {
    net = u.net;
    node = node_after H u.node (map event_in events);
    events = count;
    messages =
        messages;
  }

  left-upgraded : (events : List FeedEvent) (u : Upgrading)
      → left_by (upgrade_machine H) u events ≡ with u events (u.events + length events) (u.messages + old_messages events)
  unfolding next_upgrader
  left-upgraded [] u =
      ap (λ k. with u [] k u.messages) (let z : u.events ≡ u.events + 0 = omega arith in z)
      ∙ ap (with u [] (u.events + 0)) (let z : u.messages ≡ u.messages + 0 = omega arith in z)
  left-upgraded (event ∷ events) u =
      let v = next_upgrader H u event in
      left-upgraded events v
      ∙ ap (λ k. with v events k (v.messages + old_messages events)) (let z : (u.events + 1) + length events ≡ u.events + suc (length events) =
      omega arith in z)
      ∙ ap (with v events (u.events + suc (length events)))
      (let z : (u.messages + old_beside event) + old_messages events ≡ u.messages + (old_beside event + old_messages events) = omega arith in z)

  said-none : (events : List FeedEvent) (u : Upgrading) → said_by (upgrade_machine H) u events ≡ []
  said-none [] u = refl
  said-none (event ∷ events) u = said-none events (next_upgrader H u event)

  sent-upgraded : (events : List FeedEvent) (u : Upgrading)
      → sent_by (upgrade_machine H) u events ≡ feed_text u.net (upgraded_events H u.node events)
  unfolding upgraded_frames next_upgrader
  sent-upgraded [] u = refl
  sent-upgraded (event ∷ events) u = ap (λ l. upgraded_frames u event ++ l) (sent-upgraded events (next_upgrader H u event))

  served-node : (node : NodeState) (feed : List ℕ) → served_feed (upgrade_machine H) (upgrader_of node) node.rules.net node.rules.limits.bytes feed
      ≡ upgrade_feed_answer H node feed
  unfolding served_feed upgrade_feed_answer
  served-node node feed =
      let m = upgrade_machine H in
      let u = upgrader_of node in
      let events = events_of node.rules.net node.rules.limits.bytes feed in
      let es = events.events in
      let frames = upgraded_text H node es in
      ap (λ l. answer_with l (sent_by m u es) (m.at_end (left_by m u es)) events.ending) (said-none es u)
      ∙ ap (λ w. answer_with [] w (m.at_end (left_by m u es)) events.ending) (sent-upgraded es u)
      ∙ ap (λ s. answer_with [] frames (m.at_end s) events.ending) (left-upgraded es u)
      ∙ ap (λ k. answer_with [] frames (upgrade_end k (0 + old_messages es)) events.ending) (let z : 0 + length es ≡ length es = omega arith in z)
      ∙ ap (λ k. answer_with [] frames (upgrade_end (length es) k) events.ending) (let z : 0 + old_messages es ≡ old_messages es = omega arith in z)

  -- what a call over the machine gave is what it gave of the node
  pub upgrade-serves : (node : NodeState) (u : Upgrading) (net : Net) (bytes : ℕ) → u ≡ upgrader_of node → node.rules.net ≡ net
      → node.rules.limits.bytes ≡ bytes
      → {feed feed' report report' out out' : Option (List ℕ)} {wants : List FeedEvent → Type 0} {untouched : Type 0} (stopped : Bool)
      (status : Status)
      → Serves wants (said_by (upgrade_machine H) u) (sent_by (upgrade_machine H) u) (served_feed (upgrade_machine H) u net bytes) net bytes feed
      feed' report report' out out' untouched stopped status
      → Serves AnyEvents (λ events. []) (upgraded_text H node) (upgrade_feed_answer H node) node.rules.net bytes feed feed' report report' out out'
      untouched stopped status
  upgrade-serves node u net bytes e n b {feed} {feed'} {report} {report'} {out} {out'} {wants} {untouched} stopped status s =
      let m = upgrade_machine H in
      Serves-same (λ events w. tt) (λ events. said-none events u)
      (λ events. sent-upgraded events u ∙ ap (λ (v : Upgrading). feed_text v.net (upgraded_events H v.node events)) e)
      (λ text. ap (λ v. served_feed m v node.rules.net bytes text) e ∙ ap (λ k. served_feed m (upgrader_of node) node.rules.net k text) (sym b)
      ∙ served-node node text)
      stopped status (subst (λ k. Serves wants (said_by m u) (sent_by m u) (served_feed m u k bytes) k bytes feed feed' report report' out out'
      untouched stopped status) (sym n) s)

  -- ---- what is stored is followed

  nothing-behind : (at_end : Answer) → at_end.out ≡ [] → (last : Option (Status × Line)) → (last_of at_end last).out ≡ []
  nothing-behind at_end e None = e
  nothing-behind at_end e (Some (status, line)) = refl

  module _ (node : NodeState) (is : IsNode node) (feed : List ℕ) (bytes : IsBytes feed) where
    abbrev came : Events
    came = events_for node.rules feed

    abbrev upgraded : List FeedEvent
    upgraded = upgraded_events H node came.events

    abbrev frames : List ℕ
    frames = upgraded_text H node came.events

    stored_is : upgraded_feed H node feed ≡ frames
    unfolding upgrade_feed_answer
    stored_is = ap (λ w. frames ++ w) (nothing-behind (upgrade_end (length came.events) (old_messages came.events)) refl (bad_end came.ending))
        ∙ append-nil frames

    alike : IsFollowedAlike H node node.rules.net node.rules.limits.bytes feed
    alike = followed_alike H node.rules.net node node.rules.limits.bytes feed is bytes

    abbrev answer_to : List Verdict → NodeState → (count : ℕ) → Option FeedFault → Answer
    answer_to vs last count ending = answer_with (flat_map line_of vs) [] (end_by (list_any is_refused vs) count last.newest.chain (stored_text last))
        ending

    abbrev answer_of : List FeedEvent → Option FeedFault → Answer
    answer_of events ending =
        let es = map event_in events in
        answer_to (verdicts_on H node es) (node_after H node es) (length events) ending

    follow_is : (text : List ℕ) → follow_answer H node text ≡ answer_of (events_for node.rules text).events (events_for node.rules text).ending
    unfolding follow_answer
    follow_is text = refl

    whole : came.ending ≡ None → follow_answer H node (upgraded_feed H node feed) ≡ follow_answer H node feed
    whole ends =
        let a = alike in
        let es = map event_in upgraded in
        let told = verdicts_on H node (chain_events came) in
        ap (follow_answer H node) stored_is ∙ follow_is frames
        ∙ ap (λ l. answer_of l (events_for node.rules frames).ending) a.read.all
        ∙ ap (answer_of upgraded) (a.read.ends ∙ sym ends)
        ∙ ap (λ n. answer_to (verdicts_on H node es) (node_after H node es) n came.ending) a.as_many
        ∙ ap (λ vs. answer_to vs (node_after H node es) (length came.events) came.ending) a.said
        ∙ ap (λ last. answer_to told last (length came.events) came.ending) a.kept
        ∙ sym (follow_is feed)

    ends : (events_for node.rules (upgraded_feed H node feed)).ending ≡ None
    ends = let a = alike in ap (λ w. (events_for node.rules w).ending) stored_is ∙ a.read.ends

    lines : follow_lines H node (events_for node.rules (upgraded_feed H node feed)).events ≡ follow_lines H node came.events
    lines =
        let a = alike in
        ap (λ w. follow_lines H node (events_for node.rules w).events) stored_is ∙ ap (follow_lines H node) a.read.all ∙ ap (flat_map line_of) a.said

  pub follows-upgraded : (node : NodeState) (feed : List ℕ) → IsNode node → FollowsUpgraded H node feed
  follows-upgraded node feed is = record { whole = whole node is feed; ends = ends node is feed; lines = lines node is feed }

  -- from the start
  pub follows-upgraded-afresh : (limits : Limits) (net : Net) → limits.leaves < 2 ^ 40 → limits.bytes ≤ 2 ^ 48
      → (list : Option (List (List ℕ))) (feed : List ℕ)
      → FollowsUpgraded H (fresh_for limits net list) feed
  follows-upgraded-afresh limits net few short list feed =
      follows-upgraded (fresh_for limits net list) feed (fresh-node H net limits _ few short)

pub upgraded_feeds_are_followed : UpgradedFeedsAreFollowed
upgraded_feeds_are_followed H node feed is = follows-upgraded H node feed is
