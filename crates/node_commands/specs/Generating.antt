-- What `gen` answers, and what it means.
use Rattle.std.specs.Prelude.{◌≡◌, ℕ, true, false, [], length, Ok}
use Rattle.uo_base.specs.declared.event.Net.{Net}
use Rattle.chain_gen.specs.Generated.{generated, rollbacks_in}
use Rattle.chain_gen.specs.declared.fault.GenFault.{GenFault}
use Rattle.chain_gen.specs.declared.fault.GenFault.TheVariants as Fault
use Rattle.feed_run.specs.Answer.{Answer}
use Rattle.feed_run.specs.declared.status.Status.TheVariants.{AllAccepted}
use Rattle.feed_run.specs.declared.stop.Stop.{Stop}
use Rattle.report_lines.specs.declared.line.Line.{Line}
use Rattle.report_lines.specs.declared.line.Line.TheVariants.{Generated}
use Rattle.report_lines.specs.Lines.{whole_line}
use Rattle.node_commands.specs.Meaning.{Meaning, IsEnd, AnyEvents}

-- the line of a generated feed: its blocks, its rollbacks, its bytes
abbrev pub generated_line : (number blocks : ℕ) → Net → Line
generated_line number blocks net = Generated blocks (rollbacks_in blocks) (length (generated number blocks net))

-- it stores the feed of the number, and then prints its line
unfoldable pub gen_answer : (number blocks : ℕ) → Net → Answer
gen_answer number blocks net = record {
  status = AllAccepted;
  report = whole_line (generated_line number blocks net);
  out = generated number blocks net;
}

-- What `gen` means. It reads nothing, and tells no event.
abbrev pub generating : (number blocks : ℕ) → Net → Meaning
generating number blocks net = record {
  uses = record { feed = false; prior = false; watch = false; out = true; steps = false };
  Begun = Unit {0};
  Begins = λ prior watch begun. begun ≡ Ok tt;
  net = λ begun. net;
  wants = λ begun. AnyEvents;
  lines = λ begun events. [];
  frames = λ begun events. [];
  answer = λ begun feed. gen_answer number blocks net;
  Claims = λ inputs. Unit {0};
  AreGood = λ feed prior watch. Unit {0};
  Ends = IsEnd;
}

-- why it stops
abbrev pub stop_of_gen : GenFault → Stop
stop_of_gen Fault.WriteFault = Stop.WriteFault
stop_of_gen Fault.NoMemory = Stop.NoMemory
