-- What a run did.
use Rattle.std.specs.Prelude.{◌≡◌, ◌⊎◌, ℕ, Bool, true, false, List, [], ◌++◌, None, Some, Result, Ok, Err, IfSome, IsTrue}
use Rattle.std.specs.declared.option.Option.{Option}
use Rattle.std.specs.Io.KnownBytes.{Appends}
use Rattle.uo_base.specs.declared.event.Net.{Net}
use Rattle.uo_base.specs.Faults.{Rose}
use Rattle.uo_base.specs.FeedEvent.{FeedEvent}
use Rattle.uo_base.specs.Moved.{AppendsPart}
use Rattle.uo_base.specs.Told.{Tells}
use Rattle.feed_frame.specs.Events.{events_of}
use Rattle.feed_frame.specs.Streamed.{WritesTaken, KeepsUp}
use Rattle.feed_run.specs.Answer.{Answer}
use Rattle.feed_run.specs.Machine.{TakesWanted}
use Rattle.feed_run.specs.declared.status.Status.{Status}
use Rattle.feed_run.specs.declared.stop.Stop.{Stop}
use Rattle.feed_run.specs.Status.{is_stop}
use Rattle.report_lines.specs.Lines.{whole_line}
use Rattle.node_commands.specs.declared.bad_input.BadInput.{BadInput}
use Rattle.node_commands.specs.Meaning.{Inputs, Meaning}
use Rattle.node_commands.specs.Answers.{said}

-- ---- over a feed

-- of a command that stores nothing: no port would take it
abbrev pub NoPort : Type 0
NoPort = Unit {0}

-- known bytes grew by a text that begins with this one
pub record GrowsFrom (old new : Option (List ℕ)) (text : List ℕ) : Type 0 where
  pub more : List ℕ
  pub grew : Appends old new (text ++ more)

-- The whole answer was given, and this holds of the feed then; and where nothing is stored, this of the port that would take it.
pub record IsGiven (answer : Answer) (report report' out out' : Option (List ℕ)) (read untouched : Type 0) (status : Status) : Type 0 where
  pub answered : status ≡ answer.status
  pub reported : Appends report report' answer.report
  pub sent : Appends out out' answer.out
  pub left : read
  pub quiet : answer.out ≡ [] → untouched

-- A fault or want of memory stopped a run within its answer to these events of a feed, so a part of it was written. Of the events whose lines were
-- begun all is stored that they store; and the report has nothing else, or all that is to be stored is. Where the feed failed, the lines of all
-- events are there whose frames were wholly taken from it, and what they store; and where a sink failed those of all but the last. Where the
-- answer stores nothing, this holds of the port that would take it.
pub record IsStopped (lines frames : List FeedEvent → List ℕ) (answer : Answer) (events : List FeedEvent) (net : Net) (limit : ℕ)
    (feed feed' report report' out out' : Option (List ℕ)) (untouched : Type 0) (status : Status) : Type 0 where
  pub reported : AppendsPart report report' answer.report
  pub sent : AppendsPart out out' answer.out
  pub begun : List FeedEvent
  pub later : List FeedEvent
  pub split : events ≡ begun ++ later
  pub stored : GrowsFrom out out' (frames begun)
  pub said : AppendsPart report report' (lines begun) ⊎ Appends out out' answer.out
  pub taken : status ≡ Status.ReadFault → WritesTaken lines frames net limit feed feed' report report' out out'
  pub at_once : status ≡ Status.WriteFault → KeepsUp lines net limit feed feed' report report'
  pub quiet : answer.out ≡ [] → untouched

-- the run was stopped so; or the answer was given, and of the feed no event was wholly taken that is not wanted
abbrev pub Gives : (wants : List FeedEvent → Type 0) → (lines frames : List FeedEvent → List ℕ) → Answer → List FeedEvent → Net → (limit : ℕ)
    → (feed feed' report report' out out' : Option (List ℕ)) → (untouched : Type 0) → (stopped : Bool) → Status → Type 0
Gives wants lines frames answer events net limit feed feed' report report' out out' untouched true status =
    IsStopped lines frames answer events net limit feed feed' report report' out out' untouched status
Gives wants lines frames answer events net limit feed feed' report report' out out' untouched false status =
    IsGiven answer report report' out out' (TakesWanted wants net limit feed feed') untouched status

-- there is a text of the feed, which is the told one; to it the answer was given, or the run was stopped within it
pub record Serves (wants : List FeedEvent → Type 0) (lines frames : List FeedEvent → List ℕ) (answer : List ℕ → Answer) (net : Net) (limit : ℕ)
    (feed feed' report report' out out' : Option (List ℕ)) (untouched : Type 0) (stopped : Bool) (status : Status) : Type 0 where
  pub text : List ℕ
  pub told : Tells feed text
  pub gives : Gives wants lines frames (answer text) (events_of net limit text).events net limit feed feed' report report' out out' untouched stopped
      status

-- ---- of a command

-- a run was stopped before it began: nothing was taken of the feed, and nothing was written
pub record IsUnbegun (feed feed' report report' out out' : Option (List ℕ)) (untouched : Type 0) : Type 0 where
  pub lost : feed' ≡ feed
  pub reported : Appends report report' []
  pub sent : Appends out out' []
  pub quiet : untouched

-- a run was stopped within the one line that says why an input can not be used
pub record IsRefusing (bad : BadInput) (feed feed' report report' out out' : Option (List ℕ)) (untouched : Type 0) : Type 0 where
  pub lost : feed' ≡ feed
  pub reported : AppendsPart report report' (whole_line bad.line)
  pub sent : Appends out out' []
  pub quiet : untouched

-- what a run gave by what it began with
abbrev pub GivesBy : (m : Meaning) → (limit : ℕ) → Option (Result m.Begun BadInput) → (text : List ℕ)
    → (feed feed' report report' out out' : Option (List ℕ)) → (untouched : Type 0) → (stopped : Bool) → Status → Type 0
GivesBy m limit None text feed feed' report report' out out' untouched true status = IsUnbegun feed feed' report report' out out' untouched
GivesBy m limit None text feed feed' report report' out out' untouched false status = ⊥
GivesBy m limit (Some (Err bad)) text feed feed' report report' out out' untouched true status =
    IsRefusing bad feed feed' report report' out out' untouched
GivesBy m limit (Some (Err bad)) text feed feed' report report' out out' untouched false status =
    IsGiven (said bad.status bad.line) report report' out out' (feed' ≡ feed) untouched status
GivesBy m limit (Some (Ok begun)) text feed feed' report report' out out' untouched stopped status =
    Gives (m.wants begun) (m.lines begun) (m.frames begun) (m.answer begun text) (events_of (m.net begun) limit text).events (m.net begun) limit
    feed feed' report report' out out' untouched stopped status

-- the inputs are these, where their sources tell them
pub record Agrees {Begun : Type 0} (feed prior watch : Option (List ℕ)) (inputs : Inputs Begun) : Type 0 where
  pub on_feed : Tells feed inputs.feed
  pub on_prior : Tells prior inputs.prior
  pub on_watch : Tells watch inputs.watch

-- There are inputs, which are the told ones where they are told. By what the run began with it gave its whole answer, or was stopped within it.
-- Where nothing is stored of it, this holds of the port that would take it.
pub record Ran (m : Meaning) (limit : ℕ) (feed feed' prior watch report report' out out' : Option (List ℕ)) (untouched : Type 0) (stopped : Bool)
    (status : Status) : Type 0 where
  pub inputs : Inputs m.Begun
  pub told : Agrees feed prior watch inputs
  pub begins : IfSome inputs.begun (m.Begins inputs.prior inputs.watch)
  pub gives : GivesBy m limit inputs.begun inputs.feed feed feed' report report' out out' untouched stopped status

-- ---- the run

-- It ran so, all holds that is claimed of its answer to these inputs, and where none of them is bad it came to its end.
pub record Did (m : Meaning) (limit : ℕ) (feed feed' prior watch report report' out out' : Option (List ℕ)) (untouched : Type 0) (status : Status) :
    Type 0 where
  pub ran : Ran m limit feed feed' prior watch report report' out out' untouched (is_stop status) status
  pub claims : m.Claims ran.inputs
  pub complete : m.AreGood ran.inputs.feed ran.inputs.prior ran.inputs.watch → m.Ends status

-- the status of a run that was stopped so
abbrev pub stop_status : Stop → Status
stop_status Stop.ReadFault = Status.ReadFault
stop_status Stop.WriteFault = Status.WriteFault
stop_status Stop.NoMemory = Status.NoMemory

-- the status of a call within a run
abbrev pub status_in : Result Status Stop → Status
status_in (Ok status) = status
status_in (Err stop) = stop_status stop

-- a fault was counted of a port that is used
abbrev pub UsedRose : Bool → ℕ → ℕ → Type 0
UsedRose used before now = IsTrue used × Rose before now
