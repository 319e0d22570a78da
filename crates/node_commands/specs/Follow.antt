-- What `follow` answers to a feed.
use Rattle.std.specs.Prelude.{◌≡◌, ℕ, List, [], ◌++◌, length, map, Option, unwrap_or}
use Rattle.std.specs.List.{flat_map, list_any}
use Rattle.uo_base.specs.declared.event.Limits.{Limits}
use Rattle.uo_base.specs.declared.event.Net.{Net}
use Rattle.uo_base.specs.FeedEvent.{FeedEvent}
use Rattle.uo_digest.specs.declared.digest.Digest.{Digest}
use Rattle.block_rules.specs.declared.chain.Chain.{Chain}
use Rattle.block_rules.specs.declared.verdict.Verdict.{Verdict}
use Rattle.feed_frame.specs.Events.{Events, events_of}
use Rattle.node_rules.specs.Judging.{Rules}
use Rattle.node_rules.specs.Machine.{ChainEvent, State, start, chain_of, event_in}
use Rattle.compact_node.specs.Node.{NodeState, fresh_node}
use Rattle.compact_node.specs.State.{stored_text}
use Rattle.compact_node.specs.Throughout.{verdicts_on, node_after, full_verdicts, full_after, NoneIsForged}
use Rattle.state_text.specs.OfHistory.{state_of}
use Rattle.state_text.specs.Stored.{state_text}
use Rattle.report_lines.specs.declared.line.Line.{Line}
use Rattle.feed_run.specs.Answer.{Answer}
use Rattle.node_commands.specs.Answers.{answer_with}
use Rattle.report_lines.specs.Lines.{whole_line}
use Rattle.node_commands.specs.Machine.{end_by, is_refused}

-- the line of an event
abbrev pub line_of : Verdict → List ℕ
line_of verdict = whole_line (Line.Verdict verdict)

-- what is printed of a feed's events, by what a node says of each, the chain that it ends with, and the text of its state then: a line for
-- each, and the last one; and the state is stored where the feed was read to its end
abbrev pub answer_told : List Verdict → Chain → (stored : List ℕ) → Events → Answer
answer_told told chain stored events =
    answer_with (flat_map line_of told) [] (end_by (list_any is_refused told) (length events.events) chain stored) events.ending

-- ---- by a node that keeps roots, and by one that holds every output

-- what a feed's events tell, of which the feed has no more bytes than its rules allow
abbrev pub events_for : Rules → List ℕ → Events
events_for rules feed = events_of rules.net rules.limits.bytes feed

-- the events, with their bytes read
abbrev pub chain_events : Events → List ChainEvent
chain_events events = map event_in events.events

-- the lines of some events by this node
abbrev pub follow_lines : (List ℕ → Digest) → NodeState → List FeedEvent → List ℕ
follow_lines H node events = flat_map line_of (verdicts_on H node (map event_in events))

-- what is answered by this node
unfoldable pub follow_answer : (List ℕ → Digest) → NodeState → List ℕ → Answer
follow_answer H node feed =
    let events = events_for node.rules feed in
    let last = node_after H node (chain_events events) in
    answer_told (verdicts_on H node (chain_events events)) last.newest.chain (stored_text last) events

-- what a node stores that holds every output and watches these scripts
abbrev pub full_text : (List ℕ → Digest) → List (List ℕ) → Rules → State → List ℕ
full_text H scripts rules s = state_text (state_of H rules.net scripts s)

-- and what it answers from this state on
unfoldable pub full_answer : (List ℕ → Digest) → List (List ℕ) → Rules → State → List ℕ → Answer
full_answer H scripts rules s feed =
    let events = events_for rules feed in
    let last = full_after H scripts rules s (chain_events events) in
    answer_told (full_verdicts H scripts rules s (chain_events events)) (chain_of last.now) (full_text H scripts rules last) events

-- rules with this network and these limits
abbrev pub rules_of : Limits → Net → Rules
rules_of limits net = record { net = net; limits = limits }

-- ---- both beside each other

-- Where no proof in a feed is forged, this answer to it is what a node answers that holds every output, from this state on; and whatever comes behind
-- events of which none is forged, of these it first has what that node prints.
pub record IsAsOfFull (H : List ℕ → Digest) (scripts : List (List ℕ)) (rules : Rules) (s : State) (feed : List ℕ) (answer : Answer) : Type 0 where
  pub whole : NoneIsForged H scripts rules s (chain_events (events_for rules feed)) → answer ≡ full_answer H scripts rules s feed
  pub front : (front later : List FeedEvent) → (events_for rules feed).events ≡ front ++ later → NoneIsForged H scripts rules s (map event_in front) →
      (rest : List ℕ) × (answer.report ≡ flat_map line_of (full_verdicts H scripts rules s (map event_in front)) ++ rest)

-- ---- from the start

-- a node with no block that watches these scripts
abbrev pub fresh_for : Limits → Net → Option (List (List ℕ)) → NodeState
fresh_for limits net list = fresh_node net limits (unwrap_or list [])

-- what it answers is that of a node that holds every output
abbrev pub PrintsAsFull : (List ℕ → Digest) → Limits → Net → Option (List (List ℕ)) → (feed : List ℕ) → Type 0
PrintsAsFull H limits net list feed = IsAsOfFull H (unwrap_or list []) (rules_of limits net) start feed
    (follow_answer H (fresh_for limits net list) feed)
