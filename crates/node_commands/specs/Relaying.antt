-- What `relay` means.
use Rattle.std.specs.Prelude.{◌≡◌, ◌≢◌, ℕ, ◌-◌, Bool, true, false, List, [], ◌∷◌, replicate, Result, Ok, Err, IfOk, IfSome}
use Rattle.std.specs.List.{AllByRecursion}
use Rattle.std.specs.declared.option.Option.{Option}
use Rattle.uo_base.specs.declared.event.Limits.{Limits}
use Rattle.uo_base.specs.declared.event.Net.{Net}
use Rattle.uo_base.specs.Reading.{IsBytes}
use Rattle.uo_base.specs.Told.{Tells}
use Rattle.uo_digest.specs.declared.digest.Digest.{Digest}
use Rattle.bridge_prover.specs.Watched.{scripts_of}
use Rattle.leaf_record.specs.History.{somes}
use Rattle.feed_run.specs.Machine.{said_by}
use Rattle.feed_run.specs.declared.status.Status.TheVariants as Status
use Rattle.relay_core.specs.declared.act.Outcome.{Outcome}
use Rattle.relay_core.specs.Branches.{Begun, begun_world, AreOnBranches}
use Rattle.relay_script.specs.declared.script.ScriptFault.{ScriptFault}
use Rattle.relay_script.specs.declared.line.ScriptLine.{ScriptLine}
use Rattle.relay_script.specs.Reading.{script_in}
use Rattle.report_lines.specs.declared.line.Line.TheVariants as Line
use Rattle.report_lines.specs.declared.line.ReplyKind.TheVariants as Said
use Rattle.node_commands.specs.PriorText.{prior_text}
use Rattle.node_commands.specs.declared.bad_input.BadInput.{BadInput}
use Rattle.node_commands.specs.Meaning.{Meaning, IsEnd, AnyEvents}
use Rattle.node_commands.specs.Relayer.{outcome_line, outcomes_of, relay_behind, script_acts, relay_answer, fresh_relay, relay_machine}
use Rattle.node_commands.specs.Watching.{list_in, IsGood}

-- ---- the script

-- what was read, by its bytes
abbrev pub read_as : {T : Type 0} → (T → List ℕ) → Result T BadInput → Result (List ℕ) BadInput
read_as bytes (Ok text) = Ok (bytes text)
read_as bytes (Err bad) = Err bad

-- this was read of the source that is told
pub record IsScriptText (named : Bool) (limit : ℕ) (left : Option (List ℕ)) (read : Result (List ℕ) BadInput) : Type 0 where
  pub text : List ℕ
  pub told : Tells left text
  pub is : read ≡ prior_text named limit text

-- a script, or the number of its first bad line
abbrev pub script_by : Result (List ScriptLine) ScriptFault → Result (List ScriptLine) BadInput
script_by (Ok script) = Ok script
script_by (Err fault) = Err (record { status = Status.Prior; line = Line.Script fault.line })

-- the script that the prior bytes are
abbrev pub relay_script_of : Result (List ℕ) BadInput → Result (List ScriptLine) BadInput
relay_script_of (Ok text) = script_by (script_in text)
relay_script_of (Err bad) = Err bad

-- ---- what it begins with

-- the scripts that each follower watches, and the script of the acts
pub record RelayStart : Type 0 where
  pub lists : List (List (List ℕ))
  pub script : List ScriptLine

-- the first follower watches what is listed, and the others nothing
abbrev pub lists_for : (followers : ℕ) → List (List ℕ) → List (List (List ℕ))
lists_for followers scripts = scripts ∷ replicate (followers - 1) []

-- the lists with the script, or why the script can not be used
abbrev pub script_start : (lists : List (List (List ℕ))) → Result (List ScriptLine) BadInput → Result RelayStart BadInput
script_start lists (Ok script) = Ok (record { lists = lists; script = script })
script_start lists (Err bad) = Err bad

-- the watch list comes first, and then the script
abbrev pub relay_start : (followers : ℕ) → Result (Option (List (List ℕ))) BadInput → Result (List ScriptLine) BadInput → Result RelayStart BadInput
relay_start followers (Ok list) script = script_start (lists_for followers (scripts_of list)) script
relay_start followers (Err bad) script = Err bad

-- ---- what is claimed

-- no line of these says `replied J lost`
abbrev pub AreNotLost : List (Option Outcome) → Type 0
AreNotLost outcomes = AllByRecursion (λ o. (reply : ℕ) → outcome_line o ≢ Line.Replied reply Said.Lost) outcomes

-- Behind the acts of a script over a feed, which is bytes, each follower is on the branch of its newest serial: on a chain that the bridge had. And
-- no follower was told that it is lost.
pub record RelaysOnBranches (H : List ℕ → Digest) (limits : Limits) (net : Net) (start : RelayStart) (feed : List ℕ) : Type 0 where
  pub on_branches : IsBytes feed →
      let begun : Begun = record { net = net; limits = limits; lists = start.lists } in
      let acts = script_acts net limits.bytes start.script feed in
      AreOnBranches H begun (somes acts) (relay_behind H (begun_world begun) acts)
  pub none_lost : IsBytes feed →
      let begun : Begun = record { net = net; limits = limits; lists = start.lists } in
      AreNotLost (outcomes_of H (begun_world begun) (script_acts net limits.bytes start.script feed))

-- ---- the meaning

-- the watch list and the script can be used, where they are named, and the feed has no bad frame and no more bytes than may be read
pub record IsGoodRelay (scripted listed : Bool) (net : Net) (limits : Limits) (feed prior watch : List ℕ) : Type 0 where
  pub script : List ScriptLine
  pub runs : relay_script_of (prior_text scripted limits.bytes prior) ≡ Ok script
  pub good : IsGood listed net limits watch feed

-- What `relay` means. It stores nothing.
abbrev pub relaying : (List ℕ → Digest) → Limits → (followers : ℕ) → Net → (scripted listed : Bool) → Meaning
relaying H limits followers net scripted listed = record {
  uses = record { feed = true; prior = scripted; watch = listed; out = false; steps = true };
  Begun = RelayStart;
  Begins = λ prior watch begun. begun ≡ relay_start followers (list_in listed limits.bytes watch)
      (relay_script_of (prior_text scripted limits.bytes prior));
  net = λ start. net;
  wants = λ begun. AnyEvents;
  lines = λ start events. said_by (relay_machine H) (fresh_relay limits net start.lists start.script) events;
  frames = λ start events. [];
  answer = λ start. relay_answer H limits net start.lists start.script;
  Claims = λ inputs. IfSome inputs.begun (λ begun. IfOk begun (λ start. RelaysOnBranches H limits net start inputs.feed));
  AreGood = λ feed prior watch. IsGoodRelay scripted listed net limits feed prior watch;
  Ends = IsEnd;
}
