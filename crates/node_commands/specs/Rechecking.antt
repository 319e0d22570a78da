-- What `recheck` answers to a ticket and a feed, and what it means.
use Rattle.std.specs.Prelude.{◌≡◌, ◌⊎◌, ◌≤◌, ℕ, ◌+◌, nat_lt, Bool, true, false, List, [], ◌∷◌, ◌++◌, length, map, Some, None, Result, Ok, Err}
use Rattle.std.specs.Prelude.{not, if◌then◌else◌}
use Rattle.std.specs.declared.option.Option.{Option}
use Rattle.uo_base.specs.declared.event.Limits.{Limits}
use Rattle.uo_base.specs.declared.event.Net.{Net}
use Rattle.uo_base.specs.FeedEvent.{FeedEvent}
use Rattle.uo_base.specs.Reading.{IsBytes}
use Rattle.uo_digest.specs.declared.digest.Digest.{Digest}
use Rattle.block_codec.specs.Block.{Block}
use Rattle.block_rules.specs.Blocks.{external}
use Rattle.block_rules.specs.declared.verdict.Verdict.{Verdict}
use Rattle.cache_model.specs.Known.{known_at}
use Rattle.node_rules.specs.Messages.{Message, points_of}
use Rattle.node_rules.specs.Machine.{Level, start, event_in, full_judge, never_stops}
use Rattle.compact_node.specs.Throughout.{full_verdicts, full_after, NoneIsForged}
use Rattle.bridge_prover.specs.Full.{judged_on}
use Rattle.bridge_prover.specs.Watched.{scripts_of}
use Rattle.clash_find.specs.Clashes.{TextClash}
use Rattle.clash_find.specs.Answers.{IsClash}
use Rattle.audit_replay.specs.declared.audit.AuditLine.{AuditLine}
use Rattle.audit_replay.specs.declared.audit.AuditLine.TheVariants as Audited
use Rattle.audit_replay.specs.Audit.{AuditState, fresh_audit, next_audit, clash_on}
use Rattle.audit_replay.specs.Laws.{shown_by}
use Rattle.feed_frame.specs.Events.{events_of}
use Rattle.feed_run.specs.Answer.{Answer}
use Rattle.feed_run.specs.Machine.{Machine}
use Rattle.feed_run.specs.declared.status.Status.TheVariants as Status
use Rattle.report_lines.specs.Lines.{clash_lines}
use Rattle.ticket_check.specs.Tickets.{Ticket}
use Rattle.ticket_check.specs.Reading.{ticket_in}
use Rattle.ticket_check.specs.declared.fault.TicketFault.{TicketFault}
use Rattle.ticket_check.specs.declared.checked.Checked.{Checked}
use Rattle.ticket_check.specs.Checking.{recheck_of, recheck_over, fault_said, IsRechecked}
use Rattle.node_commands.specs.PriorText.{long_prior}
use Rattle.node_commands.specs.declared.bad_input.BadInput.{BadInput}
use Rattle.node_commands.specs.Answers.{answer_with}
use Rattle.node_commands.specs.Auditor.{clash_text, end_unless, answer_unless}
use Rattle.node_commands.specs.Follow.{chain_events, rules_of}
use Rattle.node_commands.specs.Forging.{AreWanted, IsForgedBehind}
use Rattle.node_commands.specs.Meaning.{Meaning, IsEnd}
use Rattle.node_commands.specs.Tickets.{told_as}
use Rattle.node_commands.specs.Watching.{list_in}

-- ---- the machine: an auditor, how many events it was told, and the text of a ticket

-- what contracts see of `Rechecker`
pub record RecheckerState : Type 0 where
  pub audit : AuditState
  pub events : ℕ
  pub ticket : List ℕ

-- it was told of no event
abbrev pub fresh_rechecker : Net → Limits → List (List ℕ) → (ticket : List ℕ) → RecheckerState
fresh_rechecker net limits scripts ticket = record { audit = fresh_audit net limits scripts; events = 0; ticket = ticket }

-- what it keeps behind an event
unfoldable pub next_rechecker : (List ℕ → Digest) → RecheckerState → FeedEvent → RecheckerState
next_rechecker H r event = record { audit = next_audit H r.audit (event_in event); events = r.events + 1; ticket = r.ticket }

-- no line of an event, and where it is forged the lines of what it shows
abbrev pub shown_text : Option Verdict → (events : ℕ) → Option TextClash → List ℕ
shown_text (Some verdict) events shown = []
shown_text None events shown = clash_text events shown

-- the same of what the auditor answers
abbrev pub shown_of : (events : ℕ) → AuditLine → List ℕ
shown_of events (Audited.Verdict verdict) = []
shown_of events (Audited.Clash c) = clash_text events (Some c)

-- what it prints of an event
unfoldable pub shown_line : (List ℕ → Digest) → RecheckerState → FeedEvent → List ℕ
shown_line H r event = shown_text (judged_on H r.audit.bridge (event_in event)) r.events (clash_on H r.audit.bridge (event_in event))

-- what is said of the ticket, and nothing more where a proof was forged
unfoldable pub recheck_end : (List ℕ → Digest) → RecheckerState → Answer
recheck_end H r = end_unless r.audit.ended (told_as (recheck_of H r.audit.bridge r.ticket))

-- it takes the events of a feed up to the first forged one, and stores nothing; with what it says at the end
abbrev pub machine_ending : (List ℕ → Digest) → (RecheckerState → Answer) → Machine RecheckerState
machine_ending H at_end = record {
  next = next_rechecker H;
  said = shown_line H;
  sent = λ r event. [];
  over = λ r. r.audit.ended;
  at_end = at_end;
  count = λ r. r.events;
}

-- with what is said of the ticket at the end
abbrev pub recheck_machine : (List ℕ → Digest) → Machine RecheckerState
recheck_machine H = machine_ending H (recheck_end H)

-- the handler of the events alone says nothing then
abbrev pub silent_end : RecheckerState → Answer
silent_end r = record { status = Status.AllAccepted; report = []; out = [] }

-- ---- what it begins with

-- the text of a ticket, and the watch list that is named
pub record Rechecked : Type 0 where
  pub ticket : List ℕ
  pub list : Option (List (List ℕ))

-- the ticket with the list, or why the list can not be used
abbrev pub with_list : (ticket : List ℕ) → Result (Option (List (List ℕ))) BadInput → Result Rechecked BadInput
with_list ticket (Ok list) = Ok (record { ticket = ticket; list = list })
with_list ticket (Err bad) = Err bad

-- the whole ticket, which may have no more bytes than the limit, and then the watch list, where one is named
unfoldable pub recheck_start : (named : Bool) → (limit : ℕ) → (prior watch : List ℕ) → Result Rechecked BadInput
recheck_start named limit prior watch = if nat_lt limit (length prior) then Err (long_prior limit) else with_list prior (list_in named limit watch)

-- the machine that begins with these
abbrev pub rechecker_of : Limits → Net → Rechecked → RecheckerState
rechecker_of limits net begun = fresh_rechecker net limits (scripts_of begun.list) begun.ticket

-- ---- what `recheck` answers to a feed, by the node that holds every output

-- what is printed of some events: the lines of the two texts that the first forged one shows
unfoldable pub recheck_lines : (List ℕ → Digest) → Limits → Net → Rechecked → List FeedEvent → List ℕ
recheck_lines H limits net begun events =
    let es = map event_in events in
    let scripts = scripts_of begun.list in
    clash_text (length (full_verdicts H scripts (rules_of limits net) start es)) (shown_by H scripts (rules_of limits net) start es)

-- where no event is forged what is said of the ticket over that node's newest level, and else those lines
unfoldable pub recheck_answer : (List ℕ → Digest) → Limits → Net → Rechecked → List ℕ → Answer
recheck_answer H limits net begun feed =
    let events = events_of net limits.bytes feed in
    let es = chain_events events in
    let scripts = scripts_of begun.list in
    let rules = rules_of limits net in
    let level = (full_after H scripts rules start es).now in
    answer_unless (not (never_stops rules (full_judge H scripts rules) start es))
    (answer_with [] [] (told_as (recheck_over H level.history level.tip begun.ticket)) events.ending)
    [] (recheck_lines H limits net begun events.events)

-- ---- what that means

-- over the level of a node that holds every output: a text that is no ticket is told so, and else what an auditor says of the ticket, which means
-- that it is right, or shows two texts with one digest, or why it is refused
pub record RechecksOver (H : List ℕ → Digest) (level : Level) (ticket : List ℕ) (answer : Answer) : Type 0 where
  pub none : (fault : TicketFault) → ticket_in ticket ≡ Err fault → answer ≡ told_as (fault_said fault)
  pub is : (k : Ticket) → ticket_in ticket ≡ Ok k → (checked : Checked) × (answer ≡ told_as checked) × IsRechecked H level.history level.tip k checked

-- two different texts with one digest: one is that of a node of the forest, and the proof in the message digests the other
pub record ShowsAlone (H : List ℕ → Digest) (level : Level) (events : ℕ) (block : Block) (message : Message) (scripts : List (List ℕ))
    (answer : Answer) : Type 0 where
  pub clash : TextClash
  pub is : IsClash H level.history (known_at H scripts level.history) (points_of (external block level.blocks)) message clash
  pub answered : answer ≡ record { status = Status.Clash; report = clash_lines events clash.first clash.second clash.digest; out = [] }

-- Behind a feed that is read to its end, none of whose events is forged, it is said of the ticket. At the first that is forged two texts are shown,
-- whatever comes behind it.
pub record RechecksFeed (H : List ℕ → Digest) (limits : Limits) (net : Net) (begun : Rechecked) (feed : List ℕ) : Type 0 where
  pub honest :
      let events = events_of net limits.bytes feed in
      let scripts = scripts_of begun.list in
      let rules = rules_of limits net in
      let level = (full_after H scripts rules start (chain_events events)).now in
      IsBytes feed → IsBytes begun.ticket → events.ending ≡ None → NoneIsForged H scripts rules start (chain_events events)
      → RechecksOver H level begun.ticket (recheck_answer H limits net begun feed)
  pub forged : (front later : List FeedEvent) (event : FeedEvent) → IsBytes feed → (events_of net limits.bytes feed).events ≡ front ++ event ∷ later
      → let scripts = scripts_of begun.list in
      let level = (full_after H scripts (rules_of limits net) start (map event_in front)).now in
      (f : IsForgedBehind H limits net scripts front event)
      → ShowsAlone H level (length front) f.block f.message scripts (recheck_answer H limits net begun feed)

-- the same, where it began
abbrev pub RechecksAsBegun : (List ℕ → Digest) → Limits → Net → (feed : List ℕ) → Result Rechecked BadInput → Type 0
RechecksAsBegun H limits net feed (Ok begun) = RechecksFeed H limits net begun feed
RechecksAsBegun H limits net feed (Err bad) = Unit {0}

-- the ticket and the watch list can be used, and the feed has no bad frame and no more bytes than may be read
pub record IsGoodBeside (named : Bool) (net : Net) (limits : Limits) (prior list feed : List ℕ) : Type 0 where
  pub short : length prior ≤ limits.bytes
  pub scripts : Option (List (List ℕ))
  pub usable : list_in named limits.bytes list ≡ Ok scripts
  pub whole : (events_of net limits.bytes feed).ending ≡ None

-- What `recheck` means. It prints what is said of the ticket behind the feed, or at the first forged event what `audit` shows, and stores nothing.
abbrev pub rechecking : (List ℕ → Digest) → Limits → Net → (named : Bool) → Meaning
rechecking H limits net named = record {
  uses = record { feed = true; prior = true; watch = named; out = false; steps = true };
  Begun = Rechecked;
  Begins = λ prior watch begun. begun ≡ recheck_start named limits.bytes prior watch;
  net = λ begun. net;
  wants = λ begun. AreWanted H limits net (scripts_of begun.list);
  lines = recheck_lines H limits net;
  frames = λ begun events. [];
  answer = recheck_answer H limits net;
  Claims = λ inputs. RechecksAsBegun H limits net inputs.feed (recheck_start named limits.bytes inputs.prior inputs.watch);
  AreGood = λ feed prior watch. IsGoodBeside named net limits prior watch feed;
  Ends = λ status. IsEnd status ⊎ (status ≡ Status.Clash);
}
