-- The machine of `relay`: a world, what is left of its script, and whether the bridge refused an event. And what `relay` answers to a feed: what
-- comes of the acts of the script, one after the other.
use Rattle.std.specs.Prelude.{◌≡◌, ℕ, ◌+◌, ◌||◌, Bool, false, List, [], ◌∷◌, ◌++◌, length, is_none, Option, Some, None, if◌then◌else◌}
use Rattle.std.specs.List.{flat_map, list_any}
use Rattle.uo_base.specs.declared.event.Limits.{Limits}
use Rattle.uo_base.specs.declared.event.Net.{Net}
use Rattle.uo_base.specs.FeedEvent.{FeedEvent}
use Rattle.uo_digest.specs.declared.digest.Digest.{Digest}
use Rattle.leaf_record.specs.History.{somes}
use Rattle.feed_frame.specs.declared.fault.FeedFault.{FeedFault}
use Rattle.feed_frame.specs.Events.{events_of}
use Rattle.feed_run.specs.Answer.{Answer}
use Rattle.feed_run.specs.Machine.{Machine, left_by, said_by}
use Rattle.feed_run.specs.Status.{status_of}
use Rattle.feed_run.specs.declared.status.Status.TheVariants.{AllAccepted}
use Rattle.relay_core.specs.declared.act.Kind.{Kind}
use Rattle.relay_core.specs.declared.act.Kind.TheVariants.{Next, Same, Back, Lost}
use Rattle.relay_core.specs.declared.act.Outcome.{Outcome}
use Rattle.relay_core.specs.declared.act.Outcome.TheVariants.{Judged, Asked, Replied, Moved, Stale, Unknown}
use Rattle.relay_core.specs.Acts.{WorldAct, BridgeTook, FollowerAsked, AskServed, ReplyDelivered}
use Rattle.relay_core.specs.World.{FollowerState, WorldState, fresh_world, newest_serial, next_world, outcome_on, world_after}
use Rattle.relay_script.specs.declared.line.ScriptLine.{ScriptLine}
use Rattle.relay_script.specs.declared.line.ScriptLine.TheVariants as Script
use Rattle.report_lines.specs.declared.line.Line.{Line}
use Rattle.report_lines.specs.declared.line.ReplyKind.{ReplyKind}
use Rattle.report_lines.specs.declared.line.ReplyKind.TheVariants as Said
use Rattle.report_lines.specs.Lines.{whole_line}
use Rattle.node_commands.specs.Answers.{answer_with}
use Rattle.node_commands.specs.Machine.{is_refused, tip_of, end_line}

-- ---- what comes of an act: nothing where a bridge has no event to take

-- what the bridge replied, as it is printed
abbrev pub reply_kind : Kind → ReplyKind
reply_kind (Next serial) = Said.Next
reply_kind Same = Said.Same
reply_kind (Back count) = Said.Back count
reply_kind Lost = Said.Lost

-- the line of an act
abbrev pub outcome_line : Option Outcome → Line
outcome_line None = Line.NoEvent
outcome_line (Some (Judged verdict)) = Line.Verdict verdict
outcome_line (Some (Asked ask)) = Line.Asked ask
outcome_line (Some (Replied reply kind)) = Line.Replied reply (reply_kind kind)
outcome_line (Some (Moved serial)) = Line.Moved serial
outcome_line (Some Stale) = Line.Stale
outcome_line (Some Unknown) = Line.Unknown

-- the lines of some acts
abbrev pub outcome_lines : List (Option Outcome) → List ℕ
outcome_lines outcomes = flat_map (λ o. whole_line (outcome_line o)) outcomes

-- the bridge did not do what was asked for
abbrev pub is_undone : Option Outcome → Bool
is_undone None = false
is_undone (Some (Judged verdict)) = is_refused verdict
is_undone (Some (Asked ask)) = false
is_undone (Some (Replied reply kind)) = false
is_undone (Some (Moved serial)) = false
is_undone (Some Stale) = false
is_undone (Some Unknown) = false

-- ---- the acts of a script

-- Each line is an act, and a bridge takes the next event of the feed. Behind the last event a bridge takes none where the feed was read to its end,
-- and where it ended before, nothing is done behind that bridge.
abbrev pub acts_of : (whole : Bool) → List ScriptLine → List FeedEvent → List (Option WorldAct)
acts_of whole [] events = []
acts_of whole (Script.Bridge ∷ script) [] = if whole then None ∷ acts_of whole script [] else []
acts_of whole (Script.Bridge ∷ script) (event ∷ events) = Some (BridgeTook event) ∷ acts_of whole script events
acts_of whole (Script.Ask follower ∷ script) events = Some (FollowerAsked follower) ∷ acts_of whole script events
acts_of whole (Script.Serve ask ∷ script) events = Some (AskServed ask) ∷ acts_of whole script events
acts_of whole (Script.Deliver follower reply ∷ script) events = Some (ReplyDelivered follower reply) ∷ acts_of whole script events

-- those of a script over a feed
abbrev pub script_acts : Net → (limit : ℕ) → List ScriptLine → List ℕ → List (Option WorldAct)
script_acts net limit script feed = let events = events_of net limit feed in acts_of (is_none events.ending) script events.events

-- what comes of them in a world
abbrev pub outcomes_of : (List ℕ → Digest) → WorldState → List (Option WorldAct) → List (Option Outcome)
outcomes_of H w [] = []
outcomes_of H w (None ∷ acts) = None ∷ outcomes_of H w acts
outcomes_of H w (Some act ∷ acts) = Some (outcome_on w act) ∷ outcomes_of H (next_world H w act) acts

-- and what becomes of the world
abbrev pub relay_behind : (List ℕ → Digest) → WorldState → List (Option WorldAct) → WorldState
relay_behind H w acts = world_after H w (somes acts)

-- ---- the last lines

-- the newest serial of a follower, and the chain of its node
abbrev pub node_line : (follower : ℕ) → FollowerState → Line
node_line follower x = let chain = x.node.newest.chain in Line.Node follower (newest_serial x.serials) (tip_of chain) chain.leaves

-- a line for each follower, from this number on
abbrev pub node_lines : (first : ℕ) → List FollowerState → List ℕ
node_lines first [] = []
node_lines first (x ∷ xs) = whole_line (node_line first x) ++ node_lines (first + 1) xs

-- behind them how many lines the script has, and the chain of the bridge
abbrev pub relay_end : (refused : Bool) → (lines : ℕ) → WorldState → Answer
relay_end refused lines w =
    record { status = status_of refused; report = node_lines 0 w.followers ++ whole_line (end_line lines w.bridge.chain); out = [] }

-- ---- what `relay` answers to a feed

-- the lines of the script's acts over its events, in a world with a follower for each watch list
unfoldable pub relay_answer : (List ℕ → Digest) → Limits → Net → (lists : List (List (List ℕ))) → List ScriptLine → List ℕ → Answer
relay_answer H limits net lists script feed =
    let acts = script_acts net limits.bytes script feed in
    let first = fresh_world net limits lists in
    let outcomes = outcomes_of H first acts in
    answer_with (outcome_lines outcomes) [] (relay_end (list_any is_undone outcomes) (length script) (relay_behind H first acts))
    (events_of net limits.bytes feed).ending

-- ---- a run of it

-- what contracts see of `Relayer`
pub record RelayState : Type 0 where
  pub world : WorldState
  pub script : List ScriptLine
  pub lines : ℕ
  pub refused : Bool

-- nothing of the script is done
abbrev pub fresh_relay : Limits → Net → (lists : List (List (List ℕ))) → List ScriptLine → RelayState
fresh_relay limits net lists script = record { world = fresh_world net limits lists; script = script; lines = length script; refused = false }

-- the acts of a script up to and with the next bridge, which takes this event
abbrev pub turn_of : FeedEvent → List ScriptLine → List (Option WorldAct)
turn_of event [] = []
turn_of event (Script.Bridge ∷ script) = Some (BridgeTook event) ∷ []
turn_of event (Script.Ask follower ∷ script) = Some (FollowerAsked follower) ∷ turn_of event script
turn_of event (Script.Serve ask ∷ script) = Some (AskServed ask) ∷ turn_of event script
turn_of event (Script.Deliver follower reply ∷ script) = Some (ReplyDelivered follower reply) ∷ turn_of event script

-- what is left of it then
abbrev pub behind_bridge : List ScriptLine → List ScriptLine
behind_bridge [] = []
behind_bridge (Script.Bridge ∷ script) = script
behind_bridge (Script.Ask follower ∷ script) = behind_bridge script
behind_bridge (Script.Serve ask ∷ script) = behind_bridge script
behind_bridge (Script.Deliver follower reply ∷ script) = behind_bridge script

-- the act of a line by which no bridge takes an event
abbrev pub own_act : ScriptLine → Option WorldAct
own_act Script.Bridge = None
own_act (Script.Ask follower) = Some (FollowerAsked follower)
own_act (Script.Serve ask) = Some (AskServed ask)
own_act (Script.Deliver follower reply) = Some (ReplyDelivered follower reply)

-- behind one act, and behind some
abbrev pub acted : (List ℕ → Digest) → RelayState → WorldAct → RelayState
acted H r act = record {
  world = next_world H r.world act;
  script = r.script;
  lines = r.lines;
  refused = r.refused || is_undone (Some (outcome_on r.world act));
}

-- behind some acts, with what is left of the script
abbrev pub relayed : (List ℕ → Digest) → RelayState → List (Option WorldAct) → (left : List ScriptLine) → RelayState
relayed H r acts left = record {
  world = relay_behind H r.world acts;
  script = left;
  lines = r.lines;
  refused = r.refused || list_any is_undone (outcomes_of H r.world acts);
}

-- behind the acts up to the bridge that takes this event
unfoldable pub next_relay : (List ℕ → Digest) → RelayState → FeedEvent → RelayState
next_relay H r event = relayed H r (turn_of event r.script) (behind_bridge r.script)

-- the lines of these acts
unfoldable pub turn_lines : (List ℕ → Digest) → RelayState → FeedEvent → List ℕ
turn_lines H r event = outcome_lines (outcomes_of H r.world (turn_of event r.script))

-- what comes last, by how the feed ended: the lines of the acts that are left, and where it was read to its end the last lines
unfoldable pub relay_last : (List ℕ → Digest) → RelayState → Option FeedFault → Answer
relay_last H r ending =
    let acts = acts_of (is_none ending) r.script [] in
    let s = relayed H r acts [] in
    answer_with (outcome_lines (outcomes_of H r.world acts)) [] (relay_end s.refused s.lines s.world) ending

-- It takes every event of a feed, and stores nothing. What comes last changes the world once more, and is said by `relay_last`.
abbrev pub relay_machine : (List ℕ → Digest) → Machine RelayState
relay_machine H = record {
  next = next_relay H;
  said = turn_lines H;
  sent = λ r event. [];
  over = λ r. false;
  at_end = λ r. record { status = AllAccepted; report = []; out = [] };
  count = λ r. 0;
}

-- what it answers to a feed's bytes
unfoldable pub relayed_feed : (List ℕ → Digest) → RelayState → Net → (limit : ℕ) → List ℕ → Answer
relayed_feed H r net limit feed =
    let events = events_of net limit feed in
    let last = relay_last H (left_by (relay_machine H) r events.events) events.ending in
    record { status = last.status; report = said_by (relay_machine H) r events.events ++ last.report; out = [] }

-- ---- within the program

-- a line was taken of what is left of the script, if there was one
abbrev pub IsLineTaken : RelayState → Option ScriptLine → RelayState → Type 0
IsLineTaken r None r' = (r.script ≡ []) × (r' ≡ r)
IsLineTaken r (Some line) r' = (r.script ≡ line ∷ r'.script) × (r' ≡ record r { script = r'.script })

-- what is left of a script by the end of a feed was done
pub record IsPlayed (H : List ℕ → Digest) (whole : Bool) (r r' : RelayState) (said said' : List ℕ) : Type 0 where
  pub left : relayed H r (acts_of whole r.script []) [] ≡ record r' { script = [] }
  pub lines : said' ≡ said ++ outcome_lines (outcomes_of H r.world (acts_of whole r.script []))
