-- What `ticket` answers, and what it means.
use Rattle.std.specs.Prelude.{◌≡◌, ℕ, true, false, List, [], length, Option, Some, None, Ok, Err, IfSome}
use Rattle.uo_base.specs.declared.event.Limits.{Limits}
use Rattle.uo_digest.specs.declared.digest.Digest.{Digest}
use Rattle.node_rules.specs.Machine.{Level}
use Rattle.compact_node.specs.Node.{NodeState}
use Rattle.feed_run.specs.Answer.{Answer}
use Rattle.feed_run.specs.declared.status.Status.TheVariants.{AllAccepted, SomeRefused}
use Rattle.report_lines.specs.declared.line.Line.TheVariants as Line
use Rattle.report_lines.specs.Lines.{whole_line}
use Rattle.ticket_check.specs.Tickets.{Ticket, ticket_text}
use Rattle.ticket_check.specs.Judging.{TicketRight}
use Rattle.ticket_check.specs.Written.{ticket_of}
use Rattle.node_commands.specs.Answers.{said}
use Rattle.node_commands.specs.Meaning.{Meaning, IsEnd, AnyEvents}
use Rattle.node_commands.specs.Starting.{Start, IsStart, IsUsable}
use Rattle.node_commands.specs.Tickets.{IsStateAt}

-- the ticket is stored, and its number and how many bytes it has are printed; or there is none
abbrev pub ticketed : (number : ℕ) → Option Ticket → Answer
ticketed number None = said SomeRefused Line.NoTicket
ticketed number (Some k) = record { status = AllAccepted; report = whole_line (Line.Ticket number (length (ticket_text k))); out = ticket_text k }

-- that of the entry with this number that the state keeps on its newest level
abbrev pub ticket_answer : (number : ℕ) → NodeState → Answer
ticket_answer number node = ticketed number (ticket_of node.newest number)

-- Of the state of a node that holds every output, which can be used, it is a ticket that is right over that node's newest level.
abbrev pub TicketIsRight : (List ℕ → Digest) → Limits → (number : ℕ) → (prior : List ℕ) → Start → Type 0
TicketIsRight H limits number prior (Ok node) =
    (level : Level) (k : Ticket) → IsStateAt H limits prior level → ticket_of node.newest number ≡ Some k → TicketRight H level.history level.tip k
TicketIsRight H limits number prior (Err bad) = (level : Level) → IsStateAt H limits prior level → ⊥

-- What `ticket` means. It reads no feed, but digests what it reads of the state.
abbrev pub ticketing : (List ℕ → Digest) → Limits → (number : ℕ) → Meaning
ticketing H limits number = record {
  uses = record { feed = false; prior = true; watch = false; out = true; steps = true };
  Begun = NodeState;
  Begins = λ prior watch begun. IsStart H limits prior begun;
  net = λ node. node.rules.net;
  wants = λ begun. AnyEvents;
  lines = λ node events. [];
  frames = λ node events. [];
  answer = λ node feed. ticket_answer number node;
  Claims = λ inputs. IfSome inputs.begun (TicketIsRight H limits number inputs.prior);
  AreGood = λ feed prior watch. IsUsable H limits prior;
  Ends = IsEnd;
}
