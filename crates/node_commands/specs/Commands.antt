-- What each command means, a line each, and what refused words do.
use Rattle.std.specs.Prelude.{◌≡◌, ℕ, Bool, true, false, List, [], Result, Ok, Err, is_some}
use Rattle.uo_base.specs.declared.event.Limits.{Limits}
use Rattle.uo_base.specs.declared.event.Net.{Net}
use Rattle.uo_base.specs.declared.event.Net.TheVariants.{Main}
use Rattle.uo_digest.specs.declared.digest.Digest.{Digest}
use Rattle.command_words.specs.declared.words.WordFault.{WordFault}
use Rattle.command_words.specs.Options.{Settings}
use Rattle.command_words.specs.Words.{Asked, Task, Following, Proving, Auditing, Generating, UpgradingFeed, UpgradingState, Ordering, Ticketing}
use Rattle.command_words.specs.Words.{Checking, Rechecking, Relaying, net_for, command_of}
use Rattle.feed_run.specs.declared.status.Status.TheVariants.{Words}
use Rattle.report_lines.specs.declared.line.Line.TheVariants as Line
use Rattle.node_commands.specs.declared.bad_input.BadInput.{BadInput}
use Rattle.node_commands.specs.Answers.{said}
use Rattle.node_commands.specs.Auditing.{auditing}
use Rattle.node_commands.specs.Checking.{checking}
use Rattle.node_commands.specs.Following.{following_afresh, following_on}
use Rattle.node_commands.specs.Generating.{generating}
use Rattle.node_commands.specs.Meaning.{Meaning, IsEnd, AnyEvents}
use Rattle.node_commands.specs.Ordering.{hash_named, ordering}
use Rattle.node_commands.specs.Prover.{proving}
use Rattle.node_commands.specs.Relaying.{relaying}
use Rattle.node_commands.specs.Rechecking.{rechecking}
use Rattle.node_commands.specs.Ticketing.{ticketing}
use Rattle.node_commands.specs.Upgrading.{upgrading_state}
use Rattle.node_commands.specs.UpgradingFeed.{upgrading_feed}

-- one line says where the words go wrong
abbrev pub bad_words : WordFault → BadInput
bad_words fault = record { status = Words; line = Line.Words fault.at }

-- refused words: that one line is all, and nothing is read or stored
abbrev pub refusing : WordFault → Meaning
refusing fault = record {
  uses = record { feed = false; prior = false; watch = false; out = false; steps = false };
  Begun = Unit {0};
  Begins = λ prior watch begun. begun ≡ Err (bad_words fault);
  net = λ begun. Main;
  wants = λ begun. AnyEvents;
  lines = λ begun events. [];
  frames = λ begun events. [];
  answer = λ begun feed. said Words (Line.Words fault.at);
  Claims = λ inputs. Unit {0};
  AreGood = λ feed prior watch. ⊥;
  Ends = IsEnd;
}

-- `follow` goes on from a state where one is named
abbrev pub following_from : (resumed : Bool) → (List ℕ → Digest) → Limits → Net → (named : Bool) → Meaning
following_from true H limits net named = following_on H limits
following_from false H limits net named = following_afresh H limits net named

-- what a command means with these options
abbrev pub meaning_for : (List ℕ → Digest) → Limits → Task → Settings → Meaning
meaning_for H limits Following s = following_from (is_some s.from) H limits (net_for s.net) (is_some s.watch)
meaning_for H limits Proving s = proving H limits (net_for s.net) (is_some s.watch)
meaning_for H limits Auditing s = auditing H limits (net_for s.net) (is_some s.watch)
meaning_for H limits (Generating number blocks) s = generating number blocks (net_for s.net)
meaning_for H limits UpgradingFeed s = upgrading_feed H limits (net_for s.net) (is_some s.watch)
meaning_for H limits UpgradingState s = upgrading_state H limits
meaning_for H limits (Ordering tip) s = ordering limits.bytes (net_for s.net) (hash_named tip)
meaning_for H limits (Ticketing number) s = ticketing H limits number
meaning_for H limits Checking s = checking H limits
meaning_for H limits Rechecking s = rechecking H limits (net_for s.net) (is_some s.watch)
meaning_for H limits (Relaying followers) s = relaying H limits followers (net_for s.net) (is_some s.from) (is_some s.watch)

-- what is asked for, or the line on the words
abbrev pub meaning_by : (List ℕ → Digest) → Limits → Result Asked WordFault → Meaning
meaning_by H limits (Ok asked) = meaning_for H limits asked.task asked.given
meaning_by H limits (Err fault) = refusing fault

-- what the words of a command line mean
abbrev pub meaning_of : (List ℕ → Digest) → Limits → List (List ℕ) → Meaning
meaning_of H limits words = meaning_by H limits (command_of words)
