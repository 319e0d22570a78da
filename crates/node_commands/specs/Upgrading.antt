-- What `upgrade state` answers, and what it means.
use Rattle.std.specs.Prelude.{◌≡◌, ◌⊎◌, ◌≤◌, ◌<◌, ◌^◌, ℕ, suc, true, false, List, [], length, Ok, Err, IfSome}
use Rattle.uo_base.specs.declared.event.Limits.{Limits}
use Rattle.uo_digest.specs.declared.digest.Digest.{Digest}
use Rattle.state_text.specs.Fits.{IsState}
use Rattle.state_text.specs.Stored.{StateValue, state_text, IsTextOf}
use Rattle.compact_node.specs.Node.{NodeState}
use Rattle.compact_node.specs.State.{stored_text}
use Rattle.feed_run.specs.Answer.{Answer}
use Rattle.feed_run.specs.declared.status.Status.TheVariants.{AllAccepted}
use Rattle.feed_run.specs.Status.{is_stop}
use Rattle.report_lines.specs.declared.line.Line.TheVariants.{UpgradedState}
use Rattle.report_lines.specs.Lines.{whole_line}
use Rattle.node_commands.specs.Answers.{said}
use Rattle.node_commands.specs.Meaning.{Meaning, AnyEvents}
use Rattle.node_commands.specs.Starting.{Start, IsStart, IsUsable}

-- how many levels there are, and what is stored of them
abbrev pub told_upgraded : (levels : ℕ) → (stored : List ℕ) → Answer
told_upgraded levels stored = record { status = AllAccepted; report = whole_line (UpgradedState levels); out = stored }

-- by the node that was read, or the one line that says why there is none
abbrev pub upgrade_answer : Start → Answer
upgrade_answer (Ok node) = told_upgraded (suc (length node.older)) (stored_text node)
upgrade_answer (Err bad) = said bad.status bad.line

-- what was read is of no state but this one: so of each state, in either version, the text of version 2 is stored
abbrev pub UpgradesState : (List ℕ → Digest) → Limits → (prior : List ℕ) → Start → Type 0
UpgradesState H limits prior begun = (s : StateValue) → IsState H limits.leaves s → IsTextOf s prior → length prior ≤ limits.bytes
    → upgrade_answer begun ≡ told_upgraded (length s.levels) (state_text s)

abbrev pub StatesAreUpgraded : Type 0
StatesAreUpgraded = (H : List ℕ → Digest) (limits : Limits) (prior : List ℕ) (begun : Start) → limits.leaves < 2 ^ 40 → IsStart H limits prior begun
    → UpgradesState H limits prior begun

-- What `upgrade state` means. It reads no feed, but digests what it reads of the state.
abbrev pub upgrading_state : (List ℕ → Digest) → Limits → Meaning
upgrading_state H limits = record {
  uses = record { feed = false; prior = true; watch = false; out = true; steps = true };
  Begun = NodeState;
  Begins = λ prior watch begun. IsStart H limits prior begun;
  net = λ node. node.rules.net;
  wants = λ begun. AnyEvents;
  lines = λ node events. [];
  frames = λ node events. [];
  answer = λ node feed. told_upgraded (suc (length node.older)) (stored_text node);
  Claims = λ inputs. IfSome inputs.begun (UpgradesState H limits inputs.prior);
  AreGood = λ feed prior watch. IsUsable H limits prior;
  Ends = λ status. (status ≡ AllAccepted) ⊎ (is_stop status ≡ true);
}
