-- What `audit` means.
use Rattle.std.specs.Prelude.{◌≡◌, ◌⊎◌, ℕ, Bool, true, false, List, [], Option, IfOk}
use Rattle.uo_base.specs.declared.event.Limits.{Limits}
use Rattle.uo_base.specs.declared.event.Net.{Net}
use Rattle.uo_digest.specs.declared.digest.Digest.{Digest}
use Rattle.bridge_prover.specs.Watched.{scripts_of}
use Rattle.feed_run.specs.declared.status.Status.TheVariants.{Clash}
use Rattle.node_commands.specs.Auditor.{audit_lines, audit_answer}
use Rattle.node_commands.specs.Forging.{AreWanted, AuditsFeed}
use Rattle.node_commands.specs.Meaning.{Meaning, IsEnd}
use Rattle.node_commands.specs.Watching.{list_in, IsGood}

-- What `audit` means. It stores nothing. Where no watch list is named nothing is watched. At the first event that is forged to a node that holds
-- every output it shows two different texts with one digest.
abbrev pub auditing : (List ℕ → Digest) → Limits → Net → (named : Bool) → Meaning
auditing H limits net named = record {
  uses = record { feed = true; prior = false; watch = named; out = false; steps = true };
  Begun = Option (List (List ℕ));
  Begins = λ prior watch begun. begun ≡ list_in named limits.bytes watch;
  net = λ list. net;
  wants = λ list. AreWanted H limits net (scripts_of list);
  lines = λ list. audit_lines H limits net (scripts_of list);
  frames = λ list events. [];
  answer = λ list. audit_answer H limits net (scripts_of list);
  Claims = λ inputs. IfOk (list_in named limits.bytes inputs.watch) (λ list. AuditsFeed H limits net (scripts_of list) inputs.feed);
  AreGood = λ feed prior watch. IsGood named net limits watch feed;
  Ends = λ status. IsEnd status ⊎ (status ≡ Clash);
}
