-- What `ticket`, `check` and `recheck` give, and what it means.
use Rattle.std.proofs.Common.{◌≡◌, inl, inr, ℕ, ◌<◌, ◌≤◌, ◌^◌, Bool, true, false, List, [], length, map, Option, Some, None, Result}
use Rattle.std.proofs.Common.{Ok, Err, IfOk, OnOk, IsErrOf, is_err, refl, sym, ap, subst, arith}
use Rattle.std.specs.Prelude.{◌↔◌, IfSome, nat_lt, if◌then◌else◌}
use Rattle.std.specs.Io.KnownBytes.{Appends}
use Rattle.std.proofs.KnownBytes.{Appends-nil}
use Rattle.std.proofs.lemmas.Bool.{lt-ltb, le-ltb}
use Rattle.uo_base.specs.declared.event.Limits.{Limits}
use Rattle.uo_base.specs.declared.event.Net.{Net}
use Rattle.uo_base.specs.FeedEvent.{FeedEvent}
use Rattle.uo_base.specs.Moved.{AppendsPart, LosesFront}
use Rattle.uo_base.specs.Told.{Tells}
use Rattle.uo_base.proofs.PortLemmas.{AppendsPart-none, told_text, Tells-told_text}
use Rattle.uo_digest.specs.declared.digest.Digest.{Digest}
use Rattle.feed_frame.specs.Events.{events_of, settled_of}
use Rattle.feed_frame.specs.Streamed.{WritesTaken, KeepsUp}
use Rattle.feed_run.specs.Answer.{Answer}
use Rattle.feed_run.specs.declared.status.Status.{Status}
use Rattle.feed_run.specs.declared.status.Status.TheVariants as Statuses
use Rattle.feed_run.specs.declared.stop.Stop.{Stop}
use Rattle.node_rules.specs.Machine.{Level, start, event_in}
use Rattle.compact_node.specs.Node.{NodeState}
use Rattle.compact_node.specs.Throughout.{full_after}
use Rattle.report_lines.specs.declared.line.Line.TheVariants.{LimitFeed}
use Rattle.ticket_check.specs.Tickets.{Ticket}
use Rattle.ticket_check.specs.Judging.{TicketRight}
use Rattle.ticket_check.specs.Reading.{ticket_in}
use Rattle.ticket_check.specs.declared.fault.TicketFault.{TicketFault}
use Rattle.ticket_check.specs.declared.fault.TicketFault.TheVariants as Fault
use Rattle.ticket_check.specs.declared.verdict.TicketVerdict.{TicketVerdict}
use Rattle.ticket_check.specs.declared.verdict.TicketVerdict.TheVariants as Verdict
use Rattle.ticket_check.specs.declared.checked.Checked.{Checked}
use Rattle.ticket_check.specs.declared.checked.Checked.TheVariants as Said
use Rattle.ticket_check.specs.Checking.{live_of, said_of_live, said_of, verdict_of_ticket, checked_by, check_of}
use Rattle.ticket_check.proofs.KeptTickets.{kept_tickets_are_right}
use Rattle.ticket_check.proofs.CheckLaws.{checked_is_accepted, live_is_right}
use Rattle.node_commands.specs.Answers.{said}
use Rattle.node_commands.specs.Meaning.{AnyEvents, IsEnd}
use Rattle.node_commands.specs.Checking.{check_answer, ChecksText}
use Rattle.node_commands.specs.Follow.{rules_of}
use Rattle.node_commands.specs.Runs.{NoPort, Serves, status_in}
use Rattle.node_commands.specs.Starting.{Start, IsStart}
use Rattle.node_commands.specs.Ticketing.{ticketed, TicketIsRight}
use Rattle.node_commands.specs.Tickets.{told_as}
use Rattle.node_commands.proofs.ServeLemmas.{failed-so, write-failed}
use Rattle.node_commands.proofs.StartLemmas.{back_at, no_bad}

-- ---- of a feed port that is read whole, by a command that tells no event and stores nothing

module _ (net : Net) (limit : ℕ) (answer : List ℕ → Answer) (quiet : (text : List ℕ) → (answer text).out ≡ [])
    (feed feed' report report' out : Option (List ℕ)) (lost : LosesFront feed feed') where
  abbrev none : List FeedEvent → List ℕ
  none events = []

  untaken : WritesTaken none none net limit feed feed' report report out out
  untaken = record { taken = lost.taken; lost = lost.lost; further = []; reported = Appends-nil report; sent = Appends-nil out }

  behind : {text : List ℕ} → AppendsPart report report' text → KeepsUp none net limit feed feed' report report'
  behind part = record {
    taken = lost.taken;
    lost = lost.lost;
    told = settled_of net limit lost.taken;
    late = [];
    few = omega arith;
    settled = record { others = []; split = refl };
    begun = part.done;
    reported = part.grew;
  }

  -- it was read, and the answer or a part of it was given
  pub serves-text : (text : List ℕ) → Tells feed text → (r : Result Status Stop) → IfOk r (λ status. status ≡ (answer text).status)
      → OnOk r (Appends report report' (answer text).report)
      → AppendsPart report report' (answer text).report → (IsErrOf r Stop.ReadFault → ⊥)
      → Serves AnyEvents none none answer net limit feed feed' report report' out out NoPort (is_err r) (status_in r)
  serves-text text told (Ok status) p q part never = record {
    text = text;
    told = told;
    gives = record {
      answered = p;
      reported = q;
      sent = subst (Appends out out) (sym (quiet text)) (Appends-nil out);
      left = record { taken = lost.taken; lost = lost.lost; wanted = tt };
      quiet = λ nothing. tt;
    };
  }
  serves-text text told (Err stop) p q part never = record {
    text = text;
    told = told;
    gives = record {
      reported = part;
      sent = AppendsPart-none out _;
      begun = [];
      later = (events_of net limit text).events;
      split = refl;
      stored = record { more = []; grew = Appends-nil out };
      said = inr (subst (Appends out out) (sym (quiet text)) (Appends-nil out));
      taken = λ f. absurd (never (ap Err (failed-so stop f)));
      at_once = λ f. behind part;
      quiet = λ nothing. tt;
    };
  }

  -- by another name of the answer
  pub serves-as : (text : List ℕ) → Tells feed text → (is : Answer) → is ≡ answer text → (r : Result Status Stop)
      → IfOk r (λ status. status ≡ is.status) → OnOk r (Appends report report' is.report)
      → AppendsPart report report' is.report → (IsErrOf r Stop.ReadFault → ⊥)
      → Serves AnyEvents none none answer net limit feed feed' report report' out out NoPort (is_err r) (status_in r)
  serves-as text told is same r p q part never =
      serves-text text told r (subst (λ (a : Answer). IfOk r (λ status. status ≡ a.status)) same p)
      (subst (λ (a : Answer). OnOk r (Appends report report' a.report)) same q)
      (subst (λ (a : Answer). AppendsPart report report' a.report) same part) never

  -- it was not read
  pub serves-unread : (stop : Stop) → (stop ≡ Stop.WriteFault → ⊥)
      → Serves AnyEvents none none answer net limit feed feed' report report out out NoPort true (status_in (Err stop))
  serves-unread stop never = record {
    text = told_text feed;
    told = Tells-told_text feed;
    gives = record {
      reported = AppendsPart-none report _;
      sent = AppendsPart-none out _;
      begun = [];
      later = (events_of net limit (told_text feed)).events;
      split = refl;
      stored = record { more = []; grew = Appends-nil out };
      said = inr (subst (Appends out out) (sym (quiet (told_text feed))) (Appends-nil out));
      taken = λ f. untaken;
      at_once = λ f. absurd (never (write-failed stop f));
      quiet = λ nothing. tt;
    };
  }

-- ---- what `check` answers

pub check-read : (H : List ℕ → Digest) (limit : ℕ) (node : NodeState) (text : List ℕ) → length text ≤ limit
    → told_as (check_of H node text) ≡ check_answer H limit node text
unfolding check_answer
check-read H limit node text short = let t : nat_lt limit (length text) ≡ false = le-ltb limit (length text) short in rw t refl

pub check-long : (H : List ℕ → Digest) (limit : ℕ) (node : NodeState) (text : List ℕ) → limit < length text
    → said Statuses.InputLimit (LimitFeed limit) ≡ check_answer H limit node text
unfolding check_answer
check-long H limit node text long = let t : nat_lt limit (length text) ≡ true = lt-ltb limit (length text) long in rw t refl

-- nothing is stored
pub told-quiet : (c : Checked) → (told_as c).out ≡ []
told-quiet Said.Form = refl
told-quiet (Said.Version v) = refl
told-quiet Said.Tip = refl
told-quiet (Said.Refused why) = refl
told-quiet (Said.Live txid index amount) = refl
told-quiet (Said.Clash c) = refl

pub check-quiet : (H : List ℕ → Digest) (limit : ℕ) (node : NodeState) (text : List ℕ) → (check_answer H limit node text).out ≡ []
unfolding check_answer
check-quiet H limit node text = by (nat_lt limit (length text))
  where
    by : (b : Bool) → (if b then said Statuses.InputLimit (LimitFeed limit) else told_as (check_of H node text)).out ≡ []
    by true = refl
    by false = told-quiet (check_of H node text)

-- it ends with a status of a feed that was read to its end
told-ends : (v : TicketVerdict) (k : Ticket) → IsEnd (told_as (said_of_live v (live_of k))).status
told-ends Verdict.Tip k = inr (inl refl)
told-ends (Verdict.Refused why) k = inr (inl refl)
told-ends Verdict.Live k = inl refl

check-told : (H : List ℕ → Digest) (node : NodeState) (r : Result Ticket TicketFault) → IsEnd (told_as (said_of (checked_by H node) r)).status
check-told H node (Ok k) = told-ends (verdict_of_ticket H node k) k
check-told H node (Err Fault.NotATicket) = inr (inl refl)
check-told H node (Err (Fault.Version v)) = inr (inl refl)

pub check-ends : (H : List ℕ → Digest) (limit : ℕ) (node : NodeState) (text : List ℕ) → length text ≤ limit
    → IsEnd (check_answer H limit node text).status
check-ends H limit node text short = subst (λ (a : Answer). IsEnd a.status) (check-read H limit node text short) (check-told H node (ticket_in text))

pub ticket-ends : (number : ℕ) (k : Option Ticket) → IsEnd (ticketed number k).status
ticket-ends number None = inr (inl refl)
ticket-ends number (Some k) = inl refl

-- ---- what `ticket` and `check` mean

module _ (H : List ℕ → Digest) (long : (x : List ℕ) → length (H x).0 ≡ 32) (limits : Limits) (few : limits.leaves < 2 ^ 40) (prior : List ℕ) where
  pub ticket-is-right : (number : ℕ) (begun : Start) → IsStart H limits prior begun → TicketIsRight H limits number prior begun
  ticket-is-right number (Ok node) is = λ level k at e.
      let b = back_at H long limits few at.net at.scripts at.watched at.before at.bytes prior at.text node is in
      subst (λ (l : Level). TicketRight H l.history l.tip k) (sym at.newest)
      (kept_tickets_are_right H (full_after H at.scripts (rules_of limits at.net) start (map event_in at.before)) node number k b.is b.stands e)
  ticket-is-right number (Err bad) is =
      λ level at. no_bad H long limits few at.net at.scripts at.watched at.before at.bytes prior at.text bad at.short is

  pub checks-text : (text : List ℕ) (begun : Start) → IsStart H limits prior begun → ChecksText H limits prior text begun
  checks-text text (Ok node) is = λ k read. record {
    accepted = checked_is_accepted H node k;
    right = λ level at honest.
        let b = back_at H long limits few at.net at.scripts at.watched at.before at.bytes prior at.text node is in
        let reached = full_after H at.scripts (rules_of limits at.net) start (map event_in at.before) in
        subst (λ (l : Level). (checked_by H node k ≡ live_of k) ↔ TicketRight H l.history l.tip k) (sym at.newest)
        (live_is_right H reached node k b.stands (λ a. subst (λ (l : Level). TicketRight H l.history l.tip k) at.newest (honest a)));
  }
  checks-text text (Err bad) is = λ level at. no_bad H long limits few at.net at.scripts at.watched at.before at.bytes prior at.text bad at.short is

  pub ticket-claims : (number : ℕ) (begun : Option Start) → IfSome begun (IsStart H limits prior) → IfSome begun (TicketIsRight H limits number prior)
  ticket-claims number None begins = tt
  ticket-claims number (Some begun) begins = ticket-is-right number begun begins

  pub check-claims : (text : List ℕ) (begun : Option Start) → IfSome begun (IsStart H limits prior) → IfSome begun (ChecksText H limits prior text)
  check-claims text None begins = tt
  check-claims text (Some begun) begins = checks-text text begun begins
