-- What a command means. Each command has a file of its own, with the one record that says it.
use Rattle.std.specs.Prelude.{◌≡◌, ◌⊎◌, ℕ, Bool, true, List, Result, Ok, Err}
use Rattle.std.specs.declared.option.Option.{Option}
use Rattle.uo_base.specs.declared.event.Net.{Net}
use Rattle.uo_base.specs.FeedEvent.{FeedEvent}
use Rattle.feed_run.specs.Answer.{Answer}
use Rattle.feed_run.specs.declared.status.Status.{Status}
use Rattle.feed_run.specs.declared.status.Status.TheVariants.{AllAccepted, SomeRefused}
use Rattle.feed_run.specs.Status.{is_stop}
use Rattle.node_commands.specs.declared.bad_input.BadInput.{BadInput}
use Rattle.node_commands.specs.Answers.{said}

-- the ports that a command uses beside the report, and whether it digests
pub record Uses : Type 0 where
  pub feed : Bool
  pub prior : Bool
  pub watch : Bool
  pub out : Bool
  pub steps : Bool

-- the bytes of the three inputs, and what a run began with or why an input can not be used, unless the run was stopped before
pub record Inputs (Begun : Type 0) : Type 0 where
  pub feed : List ℕ
  pub prior : List ℕ
  pub watch : List ℕ
  pub begun : Option (Result Begun BadInput)

-- a command that reads its feed to the end wants any events
abbrev pub AnyEvents : List FeedEvent → Type 0
AnyEvents events = Unit {0}

-- what a command means: what it uses and begins with, what it says and stores of a feed, what is claimed of that, and how it ends
pub record Meaning : Type 1 where
  pub uses : Uses
  -- what it begins with, and that it is this with a prior state and a watch list of these bytes
  pub Begun : Type 0
  pub Begins : (prior watch : List ℕ) → Result Begun BadInput → Type 0
  -- the network of the feed, whether some first events of it are all wanted, what is printed and what is stored of them, and the whole answer to
  -- a feed, which begins with what is printed and stored of all its events (`AnswersBeginWithEvents`)
  pub net : Begun → Net
  pub wants : Begun → List FeedEvent → Type 0
  pub lines : Begun → List FeedEvent → List ℕ
  pub frames : Begun → List FeedEvent → List ℕ
  pub answer : Begun → List ℕ → Answer
  -- what is claimed of the answer to these inputs
  pub Claims : Inputs Begun → Type 0
  -- none of these bytes is bad, and how a run ends then
  pub AreGood : (feed prior watch : List ℕ) → Type 0
  pub Ends : Status → Type 0

-- the answer with what it begins with, or the one line that says why an input can not be used
abbrev pub answer_by : (m : Meaning) → Result m.Begun BadInput → List ℕ → Answer
answer_by m (Ok begun) feed = m.answer begun feed
answer_by m (Err bad) feed = said bad.status bad.line

-- the feed was read to its end, or a fault or want of memory stopped the run
abbrev pub IsEnd : Status → Type 0
IsEnd status = (status ≡ AllAccepted) ⊎ (status ≡ SomeRefused) ⊎ (is_stop status ≡ true)
