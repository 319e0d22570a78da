-- What `check` answers, and what it means.
use Rattle.std.specs.Prelude.{◌≡◌, ◌↔◌, ◌≤◌, ℕ, nat_lt, true, false, List, [], length, Ok, Err, IfSome, if◌then◌else◌}
use Rattle.uo_base.specs.declared.event.Limits.{Limits}
use Rattle.uo_digest.specs.declared.digest.Digest.{Digest}
use Rattle.node_rules.specs.Machine.{Level}
use Rattle.compact_node.specs.Node.{NodeState}
use Rattle.feed_run.specs.Answer.{Answer}
use Rattle.feed_run.specs.declared.status.Status.TheVariants.{InputLimit}
use Rattle.report_lines.specs.declared.line.Line.TheVariants.{LimitFeed}
use Rattle.ticket_check.specs.Tickets.{Ticket}
use Rattle.ticket_check.specs.Reading.{ticket_in}
use Rattle.ticket_check.specs.Judging.{TicketRight}
use Rattle.ticket_check.specs.Checking.{live_of, checked_by, check_of, AcceptsOver, IsChecked}
use Rattle.node_commands.specs.Answers.{said}
use Rattle.node_commands.specs.Meaning.{Meaning, IsEnd, AnyEvents}
use Rattle.node_commands.specs.Starting.{Start, IsStart, IsUsable}
use Rattle.node_commands.specs.Tickets.{told_as, IsStateAt}

-- what the node says of the ticket that the feed port gives, which may have no more bytes than the limit
unfoldable pub check_answer : (List ℕ → Digest) → (limit : ℕ) → NodeState → List ℕ → Answer
check_answer H limit node text = if nat_lt limit (length text) then said InputLimit (LimitFeed limit) else told_as (check_of H node text)

-- A ticket is live exactly where the roots of the state's newest level accept it, and else the first part that fails is told. Where the state is that
-- of a node that holds every output, and the ticket is not accepted without being right, it is live exactly where it is right.
pub record ChecksTicket (H : List ℕ → Digest) (limits : Limits) (prior : List ℕ) (node : NodeState) (k : Ticket) : Type 0 where
  pub accepted : IsChecked H node k (checked_by H node k)
  pub right : (level : Level) → IsStateAt H limits prior level → (AcceptsOver H node k → TicketRight H level.history level.tip k)
      → (checked_by H node k ≡ live_of k) ↔ TicketRight H level.history level.tip k

-- such a state can be used
abbrev pub ChecksText : (List ℕ → Digest) → Limits → (prior text : List ℕ) → Start → Type 0
ChecksText H limits prior text (Ok node) = (k : Ticket) → ticket_in text ≡ Ok k → ChecksTicket H limits prior node k
ChecksText H limits prior text (Err bad) = (level : Level) → IsStateAt H limits prior level → ⊥

-- What `check` means. It prints what is said of the ticket in the feed over the newest level of the prior state, and stores nothing.
abbrev pub checking : (List ℕ → Digest) → Limits → Meaning
checking H limits = record {
  uses = record { feed = true; prior = true; watch = false; out = false; steps = true };
  Begun = NodeState;
  Begins = λ prior watch begun. IsStart H limits prior begun;
  net = λ node. node.rules.net;
  wants = λ begun. AnyEvents;
  lines = λ node events. [];
  frames = λ node events. [];
  answer = check_answer H limits.bytes;
  Claims = λ inputs. IfSome inputs.begun (ChecksText H limits inputs.prior inputs.feed);
  AreGood = λ feed prior watch. IsUsable H limits prior × (length feed ≤ limits.bytes);
  Ends = IsEnd;
}
