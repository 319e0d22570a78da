-- The prior state that the words may name: what is read of it, and what is answered from there.
use Rattle.std.specs.Prelude.{◌≡◌, ◌⊎◌, ℕ, ◌<◌, ◌≤◌, List, length, map, None, Result, Ok, Err, IfSome}
use Rattle.std.specs.declared.option.Option.{Option}
use Rattle.std.specs.List.{AllByRecursion}
use Rattle.uo_base.specs.declared.event.Limits.{Limits}
use Rattle.uo_base.specs.declared.event.Net.{Net}
use Rattle.uo_base.specs.FeedEvent.{FeedEvent}
use Rattle.uo_base.specs.Told.{Tells}
use Rattle.uo_digest.specs.declared.digest.Digest.{Digest}
use Rattle.leaf_cache.specs.Watched.{AreWatched}
use Rattle.node_rules.specs.Fitting.{AreEventBytes}
use Rattle.node_rules.specs.Machine.{start, event_in}
use Rattle.state_text.specs.Fits.{IsState}
use Rattle.state_text.specs.Stored.{StateValue, IsOfVersion, IsTextOf}
use Rattle.state_text.specs.OfHistory.{state_of}
use Rattle.compact_node.specs.Node.{NodeState, IsNode}
use Rattle.compact_node.specs.State.{IsReadAs}
use Rattle.compact_node.specs.Throughout.{full_after, NoneIsForged}
use Rattle.feed_frame.specs.Events.{events_of}
use Rattle.feed_run.specs.Answer.{Answer}
use Rattle.feed_run.specs.declared.status.Status.TheVariants as Status
use Rattle.report_lines.specs.declared.line.Line.TheVariants as Line
use Rattle.node_commands.specs.declared.bad_input.BadInput.{BadInput}
use Rattle.node_commands.specs.Answers.{said}
use Rattle.node_commands.specs.Follow.{follow_answer, rules_of, IsAsOfFull}

-- ---- what is read

-- a node, or why the text can not be used
abbrev pub Start : Type 0
Start = Result NodeState BadInput

-- the node that a text of at most so many bytes says, with these limits
pub record IsNodeOf (H : List ℕ → Digest) (limits : Limits) (text : List ℕ) (node : NodeState) : Type 0 where
  pub short : length text ≤ limits.bytes
  pub reads : IsReadAs H text node
  pub limits_are : node.rules.limits ≡ limits
  pub is : IsNode node

-- the text has more bytes than may be read
pub record IsLong (limits : Limits) (text : List ℕ) (bad : BadInput) : Type 0 where
  pub long : limits.bytes < length text
  pub is : bad ≡ record { status = Status.InputLimit; line = Line.LimitPrior limits.bytes }

-- the text is that of a version that is not read
pub record IsOther (limits : Limits) (text : List ℕ) (bad : BadInput) : Type 0 where
  pub short : length text ≤ limits.bytes
  pub version : ℕ
  pub other : IsOfVersion version text
  pub is : bad ≡ record { status = Status.Prior; line = Line.PriorVersion version }

-- the text is that of no state of any version
pub record IsNone (H : List ℕ → Digest) (limits : Limits) (text : List ℕ) (bad : BadInput) : Type 0 where
  pub short : length text ≤ limits.bytes
  pub none : (s : StateValue) → IsState H limits.leaves s → IsTextOf s text → ⊥
  pub no_other : (version : ℕ) → IsOfVersion version text → ⊥
  pub is : bad ≡ record { status = Status.Prior; line = Line.PriorForm }

-- this is what is read of a text: the node that it says, or why there is none
abbrev pub IsStart : (List ℕ → Digest) → Limits → List ℕ → Start → Type 0
IsStart H limits text (Ok node) = IsNodeOf H limits text node
IsStart H limits text (Err bad) = IsLong limits text bad ⊎ IsOther limits text bad ⊎ IsNone H limits text bad

-- this was made of the text that is told
pub record IsStartOf (H : List ℕ → Digest) (limits : Limits) (left : Option (List ℕ)) (begun : Start) : Type 0 where
  pub text : List ℕ
  pub told : Tells left text
  pub is : IsStart H limits text begun

-- the prior bytes are a state, in either version, and no more than may be read
pub record IsUsable (H : List ℕ → Digest) (limits : Limits) (prior : List ℕ) : Type 0 where
  pub state : StateValue
  pub is : IsState H limits.leaves state
  pub text : IsTextOf state prior
  pub short : length prior ≤ limits.bytes

-- the prior bytes can be used, and the feed, of the state's network, has no bad frame and no byte too many
pub record IsGoodBehind (H : List ℕ → Digest) (limits : Limits) (prior feed : List ℕ) : Type 0 where
  pub usable : IsUsable H limits prior
  pub whole : (events_of usable.state.net limits.bytes feed).ending ≡ None

-- ---- what is answered

-- what is answered by the node that was read, or the one line that says why there is none
abbrev pub start_answer : (List ℕ → Digest) → Start → List ℕ → Answer
start_answer H (Ok node) feed = follow_answer H node feed
start_answer H (Err bad) feed = said bad.status bad.line

-- The state, in either version, of a node that holds every output and watches these scripts, after any events from its start of which no proof is
-- forged: a run that goes on from it answers what that node answers.
abbrev pub ResumesAsFull : (List ℕ → Digest) → Limits → (prior feed : List ℕ) → Option Start → Type 0
ResumesAsFull H limits prior feed begun =
    (net : Net) (scripts : List (List ℕ)) (before : List FeedEvent) → AreWatched scripts → AllByRecursion AreEventBytes before →
    let rules = rules_of limits net in
    NoneIsForged H scripts rules start (map event_in before) →
    let s = full_after H scripts rules start (map event_in before) in
    IsTextOf (state_of H net scripts s) prior → length prior ≤ limits.bytes
    → IfSome begun (λ b. IsAsOfFull H scripts rules s feed (start_answer H b feed))
