-- A run that is stopped between two events, and goes on from what it stored.
use Rattle.std.specs.Prelude.{◌≡◌, ◌⊎◌, ℕ, ◌<◌, ◌≤◌, ◌^◌, List, [], ◌++◌, length, map, is_some, None}
use Rattle.std.specs.List.{flat_map, AllByRecursion}
use Rattle.uo_base.specs.declared.event.Limits.{Limits}
use Rattle.uo_base.specs.declared.event.Net.{Net}
use Rattle.uo_base.specs.FeedEvent.{FeedEvent}
use Rattle.uo_digest.specs.declared.digest.Digest.{Digest}
use Rattle.forest_place.specs.declared.naming.Naming.TheVariants.{Position}
use Rattle.leaf_cache.specs.Watched.{AreWatched}
use Rattle.node_rules.specs.Fitting.{AreEventBytes}
use Rattle.node_rules.specs.Judging.{Rules}
use Rattle.node_rules.specs.Machine.{start, event_in}
use Rattle.compact_node.specs.Node.{NodeState, IsNode, Stands, fresh_node}
use Rattle.compact_node.specs.State.{stored_state}
use Rattle.state_text.specs.Stored.{text_by}
use Rattle.compact_node.specs.Throughout.{verdicts_on, node_after, full_after, NoneIsForged}
use Rattle.feed_frame.specs.Events.{settled_of}
use Rattle.node_commands.specs.Answers.{bad_end}
use Rattle.node_commands.specs.Follow.{line_of, events_for, chain_events, follow_answer, rules_of}
use Rattle.node_commands.specs.Starting.{IsNodeOf}

-- a node with these rules and scripts, that stands for what a node that holds every output comes to from its start by these events, none of them
-- forged
pub record StandsBehind (H : List ℕ → Digest) (limits : Limits) (net : Net) (scripts : List (List ℕ)) (before : List FeedEvent)
    (node : NodeState) : Type 0 where
  pub bytes : AllByRecursion AreEventBytes before
  pub honest : NoneIsForged H scripts (rules_of limits net) start (map event_in before)
  pub is : IsNode node
  pub rules_are : node.rules ≡ rules_of limits net
  pub scripts_are : node.scripts ≡ scripts
  pub stands : Stands H (full_after H scripts (rules_of limits net) start (map event_in before)) node

-- a feed's events are those of two feeds, the first of which is read to its end; and it ends well exactly where the second does
pub record IsParted (rules : Rules) (whole front back : List ℕ) : Type 0 where
  pub events : (events_for rules whole).events ≡ (events_for rules front).events ++ (events_for rules back).events
  pub front_ends : (events_for rules front).ending ≡ None
  pub back_ends : is_some (bad_end (events_for rules whole).ending) ≡ is_some (bad_end (events_for rules back).ending)

-- So are two feeds, one behind the other, where the first is read to its end and no proof stands last in it, within the limit of bytes.
abbrev pub PiecesAreParted : Type 0
PiecesAreParted = (rules : Rules) (front back : List ℕ) → length (front ++ back) ≤ rules.limits.bytes → (events_for rules front).ending ≡ None
    → settled_of rules.net rules.limits.bytes front ≡ (events_for rules front).events → IsParted rules (front ++ back) front back

-- the lines of a feed's events
abbrev pub lines_on : (List ℕ → Digest) → NodeState → List ℕ → List ℕ
lines_on H node feed = flat_map line_of (verdicts_on H node (chain_events (events_for node.rules feed)))

-- what a node keeps behind them
abbrev pub left_on : (List ℕ → Digest) → NodeState → List ℕ → NodeState
left_on H node feed = node_after H node (chain_events (events_for node.rules feed))

-- over the whole feed a node says what it says over the front, and then what this one says over the back; both then keep the same, and store the same
pub record GoesOn (H : List ℕ → Digest) (node again : NodeState) (whole front back : List ℕ) : Type 0 where
  pub lines : lines_on H node whole ≡ lines_on H node front ++ lines_on H again back
  pub left : left_on H node whole ≡ left_on H again back
  pub stored : (follow_answer H node whole).out ≡ (follow_answer H again back).out

-- what a run over the front stores, or the text of version 1 of the same state
abbrev pub IsLeftBy : (List ℕ → Digest) → NodeState → List ℕ → List ℕ → Type 0
IsLeftBy H node front prior = (prior ≡ (follow_answer H node front).out) ⊎ (prior ≡ text_by Position (stored_state (left_on H node front)))

-- Where a run over the front is done and no proof in it is forged, a node that is read of what it left, in either version, goes on from there; and it
-- stands for what a node that holds every output comes to by all events so far, so it may be stopped again.
abbrev pub ResumedIsWhole : Type 0
ResumedIsWhole = (H : List ℕ → Digest) → ((x : List ℕ) → length (H x).0 ≡ 32) → (limits : Limits) → limits.leaves < 2 ^ 40
    → (net : Net) (scripts : List (List ℕ)) → AreWatched scripts →
    (before : List FeedEvent) (node again : NodeState) (whole front back prior : List ℕ) → StandsBehind H limits net scripts before node →
    let rules = rules_of limits net in
    let events = (events_for rules front).events in
    IsParted rules whole front back → AllByRecursion AreEventBytes events → NoneIsForged H scripts rules start (map event_in (before ++ events))
    → IsLeftBy H node front prior → IsNodeOf H limits prior again →
    GoesOn H node again whole front back × StandsBehind H limits net scripts (before ++ events) again

-- a node with no block stands behind no event
abbrev pub FreshBegins : Type 0
FreshBegins = (H : List ℕ → Digest) (limits : Limits) → limits.leaves < 2 ^ 40 → limits.bytes ≤ 2 ^ 48 → (net : Net) (scripts : List (List ℕ))
    → StandsBehind H limits net scripts [] (fresh_node net limits scripts)
