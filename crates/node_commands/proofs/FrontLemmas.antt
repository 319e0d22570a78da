-- What a command prints and stores of the events of a feed stands at the front of its answer.
use Rattle.std.proofs.Common.{◌≡◌, ◌<◌, ◌^◌, ℕ, Bool, true, false, List, [], length, Option, Result, Ok, Err, is_some, refl, ap, subst, ◌∙◌}
use Rattle.std.specs.List.{flat_map, list_any}
use Rattle.uo_base.specs.declared.event.Limits.{Limits}
use Rattle.uo_base.specs.declared.event.Net.{Net}
use Rattle.uo_digest.specs.declared.digest.Digest.{Digest}
use Rattle.compact_node.specs.Node.{NodeState}
use Rattle.compact_node.specs.State.{stored_text}
use Rattle.compact_node.specs.Throughout.{verdicts_on, node_after}
use Rattle.feed_frame.specs.declared.fault.FeedFault.{FeedFault}
use Rattle.feed_frame.specs.Events.{events_of}
use Rattle.feed_run.specs.Answer.{Answer}
use Rattle.feed_run.specs.Machine.{Machine, left_by, said_by, sent_by, wanted_end}
use Rattle.feed_upgrade.specs.Upgraded.{old_messages}
use Rattle.feed_upgrade.specs.Upgrader.{upgrade_end}
use Rattle.bridge_prover.specs.Watched.{scripts_of}
use Rattle.relay_script.specs.declared.line.ScriptLine.{ScriptLine}
use Rattle.command_words.specs.declared.words.WordFault.{WordFault}
use Rattle.command_words.specs.Options.{Settings}
use Rattle.command_words.specs.Words.{Asked, Task, Following, Proving, Auditing, Generating, UpgradingFeed, UpgradingState, Ordering, Ticketing}
use Rattle.command_words.specs.Words.{Checking, Rechecking, Relaying, net_for, command_of}
use Rattle.node_commands.specs.declared.bad_input.BadInput.{BadInput}
use Rattle.node_commands.specs.Answers.{answer_with, bad_end, last_of, served_feed}
use Rattle.node_commands.specs.Auditor.{fresh_auditor, audit_machine, audit_lines, audit_answer}
use Rattle.node_commands.specs.Commands.{following_from, meaning_for, meaning_by}
use Rattle.node_commands.specs.Follow.{line_of, events_for, chain_events, follow_lines, follow_answer, rules_of}
use Rattle.node_commands.specs.Following.{fresh_start}
use Rattle.node_commands.specs.Fronts.{BeginsWith, AnswersByEvents, AnswersBeginWithEvents}
use Rattle.node_commands.specs.Machine.{end_by, follow_end, is_refused}
use Rattle.node_commands.specs.Prover.{prove_answer}
use Rattle.node_commands.specs.Proving.{proving_text, proving_verdicts, proving_chain}
use Rattle.node_commands.specs.Rechecking.{recheck_machine, Rechecked, rechecker_of, recheck_lines, recheck_answer}
use Rattle.node_commands.specs.Relayer.{RelayState, relay_last, relay_answer, fresh_relay, relay_machine, relayed_feed}
use Rattle.node_commands.specs.Starting.{Start, IsNodeOf}
use Rattle.node_commands.specs.UpgradingFeed.{upgraded_text, upgrade_feed_answer}
use Rattle.node_commands.specs.Watching.{list_in}
use Rattle.node_commands.proofs.AuditLemmas.{served-audit, said-lines as audited-lines}
use Rattle.node_commands.proofs.RecheckLemmas.{same-answer, said-lines as rechecked-lines}
use Rattle.node_commands.proofs.RelayLemmas.{relayed-is}

-- ---- an answer by its parts

from-none : (whole : List ℕ) → BeginsWith whole []
from-none whole = (whole, refl)

with-lines : (lines frames : List ℕ) (at_end : Answer) (ending : Option FeedFault) → BeginsWith (answer_with lines frames at_end ending).report lines
with-lines lines frames at_end ending = ((last_of at_end (bad_end ending)).report, refl)

with-frames : (lines frames : List ℕ) (at_end : Answer) (ending : Option FeedFault) → BeginsWith (answer_with lines frames at_end ending).out frames
with-frames lines frames at_end ending = ((last_of at_end (bad_end ending)).out, refl)

-- what a machine serves begins with what it says of the events
served-lines : {S : Type 0} (m : Machine S) (start : S) (net : Net) (limit : ℕ) (feed : List ℕ)
    → BeginsWith (served_feed m start net limit feed).report (said_by m start (events_of net limit feed).events)
unfolding served_feed
served-lines m start net limit feed =
    let events = events_of net limit feed in
    let last = left_by m start events.events in
    with-lines (said_by m start events.events) (sent_by m start events.events) (m.at_end last) (wanted_end m last events.ending)

-- ---- the limit of a node

abbrev limits_in : Limits → Start → Limits
limits_in limits (Ok node) = node.rules.limits
limits_in limits (Err bad) = limits

read-limits : (H : List ℕ → Digest) (limits : Limits) (prior : List ℕ) (node : NodeState) → IsNodeOf H limits prior node → node.rules.limits ≡ limits
read-limits H limits prior node is = is.limits_are

fresh-limits : (limits : Limits) (net : Net) (list : Result (Option (List (List ℕ))) BadInput) (node : NodeState)
    → Ok node ≡ fresh_start limits net list → node.rules.limits ≡ limits
fresh-limits limits net list node is = ap (limits_in limits) is ∙ by list
  where
    by : (r : Result (Option (List (List ℕ))) BadInput) → limits_in limits (fresh_start limits net r) ≡ limits
    by (Ok list) = refl
    by (Err bad) = refl

-- ---- the commands

module _ (H : List ℕ → Digest) (limits : Limits) where
  follow-front : (node : NodeState) (feed : List ℕ) → node.rules.limits ≡ limits
      → BeginsWith (follow_answer H node feed).report (follow_lines H node (events_of node.rules.net limits.bytes feed).events)
  unfolding follow_answer
  follow-front node feed is =
      let events = events_for node.rules feed in
      let told = verdicts_on H node (chain_events events) in
      let last = node_after H node (chain_events events) in
      subst (λ (l : Limits). BeginsWith (follow_answer H node feed).report (follow_lines H node (events_of node.rules.net l.bytes feed).events)) is
      (with-lines (flat_map line_of told) []
      (end_by (list_any is_refused told) (length events.events) last.newest.chain (stored_text last)) events.ending)

  upgrade-front : (node : NodeState) (feed : List ℕ) → node.rules.limits ≡ limits
      → BeginsWith (upgrade_feed_answer H node feed).out (upgraded_text H node (events_of node.rules.net limits.bytes feed).events)
  unfolding upgrade_feed_answer
  upgrade-front node feed is =
      let events = events_for node.rules feed in
      subst (λ (l : Limits). BeginsWith (upgrade_feed_answer H node feed).out
      (upgraded_text H node (events_of node.rules.net l.bytes feed).events)) is
      (with-frames [] (upgraded_text H node events.events) (upgrade_end (length events.events) (old_messages events.events)) events.ending)

  prove-front : (net : Net) (list : Option (List (List ℕ))) (feed : List ℕ) →
      let events = (events_of net limits.bytes feed).events in
      BeginsWith (prove_answer H limits net list feed).report (flat_map line_of (proving_verdicts (rules_of limits net) events))
      × BeginsWith (prove_answer H limits net list feed).out (proving_text H list (rules_of limits net) events)
  unfolding prove_answer
  prove-front net list feed =
      let events = events_of net limits.bytes feed in
      let rules = rules_of limits net in
      let told = proving_verdicts rules events.events in
      let lines = flat_map line_of told in
      let text = proving_text H list rules events.events in
      let last = follow_end (list_any is_refused told) (length events.events) (proving_chain rules events.events) in
      (with-lines lines text last events.ending, with-frames lines text last events.ending)

  audit-front : limits.leaves < 2 ^ 40 → (net : Net) (scripts : List (List ℕ)) (feed : List ℕ)
      → BeginsWith (audit_answer H limits net scripts feed).report (audit_lines H limits net scripts (events_of net limits.bytes feed).events)
  audit-front few net scripts feed =
      let fresh = fresh_auditor net limits scripts in
      let events = (events_of net limits.bytes feed).events in
      subst (BeginsWith (audit_answer H limits net scripts feed).report) (audited-lines H limits net scripts few events)
      (subst (λ (a : Answer). BeginsWith a.report (said_by (audit_machine H) fresh events)) (served-audit H limits net scripts few fresh refl feed)
      (served-lines (audit_machine H) fresh net limits.bytes feed))

  recheck-front : limits.leaves < 2 ^ 40 → (net : Net) (begun : Rechecked) (feed : List ℕ)
      → BeginsWith (recheck_answer H limits net begun feed).report (recheck_lines H limits net begun (events_of net limits.bytes feed).events)
  recheck-front few net begun feed =
      let fresh = rechecker_of limits net begun in
      let events = (events_of net limits.bytes feed).events in
      subst (BeginsWith (recheck_answer H limits net begun feed).report) (rechecked-lines H limits few net begun events)
      (subst (λ (a : Answer). BeginsWith a.report (said_by (recheck_machine H) fresh events)) (same-answer H limits few net begun feed)
      (served-lines (recheck_machine H) fresh net limits.bytes feed))

  relayed-front : (r : RelayState) (net : Net) (feed : List ℕ)
      → BeginsWith (relayed_feed H r net limits.bytes feed).report (said_by (relay_machine H) r (events_of net limits.bytes feed).events)
  unfolding relayed_feed
  relayed-front r net feed =
      let events = events_of net limits.bytes feed in
      ((relay_last H (left_by (relay_machine H) r events.events) events.ending).report, refl)

  relay-front : (net : Net) (lists : List (List (List ℕ))) (script : List ScriptLine) (feed : List ℕ)
      → BeginsWith (relay_answer H limits net lists script feed).report
      (said_by (relay_machine H) (fresh_relay limits net lists script) (events_of net limits.bytes feed).events)
  relay-front net lists script feed =
      let fresh = fresh_relay limits net lists script in
      let events = events_of net limits.bytes feed in
      subst (λ (a : Answer). BeginsWith a.report (said_by (relay_machine H) fresh events.events)) (relayed-is H limits net lists script feed)
      (relayed-front fresh net feed)

-- ---- each command

module _ (H : List ℕ → Digest) (limits : Limits) (few : limits.leaves < 2 ^ 40) (prior watch : List ℕ) where
  from-fronts : (resumed : Bool) (net : Net) (named : Bool) → AnswersByEvents (following_from resumed H limits net named) limits.bytes prior watch
  from-fronts true net named = λ node feed is. (
    follow-front H limits node feed (read-limits H limits prior node is),
    from-none (follow_answer H node feed).out,
  )
  from-fronts false net named = λ node feed is. (
    follow-front H limits node feed (fresh-limits limits net (list_in named limits.bytes watch) node is),
    from-none (follow_answer H node feed).out,
  )

  task-fronts : (task : Task) (s : Settings) → AnswersByEvents (meaning_for H limits task s) limits.bytes prior watch
  task-fronts Following s = from-fronts (is_some s.from) (net_for s.net) (is_some s.watch)
  task-fronts Proving s = λ list feed is. prove-front H limits (net_for s.net) list feed
  task-fronts Auditing s = λ list feed is. (audit-front H limits few (net_for s.net) (scripts_of list) feed, from-none _)
  task-fronts (Generating number blocks) s = λ begun feed is. (from-none _, from-none _)
  task-fronts UpgradingFeed s = λ node feed is. (
    from-none _,
    upgrade-front H limits node feed (fresh-limits limits (net_for s.net) (list_in (is_some s.watch) limits.bytes watch) node is),
  )
  task-fronts UpgradingState s = λ node feed is. (from-none _, from-none _)
  task-fronts (Ordering tip) s = λ begun feed is. (from-none _, from-none _)
  task-fronts (Ticketing number) s = λ node feed is. (from-none _, from-none _)
  task-fronts Checking s = λ node feed is. (from-none _, from-none _)
  task-fronts Rechecking s = λ begun feed is. (recheck-front H limits few (net_for s.net) begun feed, from-none _)
  task-fronts (Relaying followers) s = λ start feed is. (relay-front H limits (net_for s.net) start.lists start.script feed, from-none _)

  asked-fronts : (asked : Result Asked WordFault) → AnswersByEvents (meaning_by H limits asked) limits.bytes prior watch
  asked-fronts (Ok asked) = task-fronts asked.task asked.given
  asked-fronts (Err fault) = λ begun feed is. (from-none _, from-none _)

pub answers-begin-with-events : AnswersBeginWithEvents
answers-begin-with-events = λ H limits few words prior watch. asked-fronts H limits few prior watch (command_of words)
