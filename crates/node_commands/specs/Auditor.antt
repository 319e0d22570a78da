-- The machine of `audit`: an auditor, how many events it was told, and whether it refused one. And what `audit` answers to a feed, by the node
-- that holds every output.
use Rattle.std.specs.Prelude.{ℕ, ◌+◌, ◌||◌, not, Bool, true, false, List, [], ◌++◌, length, map, Option, Some, None}
use Rattle.std.specs.List.{flat_map, list_any}
use Rattle.uo_base.specs.declared.event.Limits.{Limits}
use Rattle.uo_base.specs.declared.event.Net.{Net}
use Rattle.uo_base.specs.FeedEvent.{FeedEvent}
use Rattle.uo_digest.specs.declared.digest.Digest.{Digest}
use Rattle.leaf_record.specs.History.{supply}
use Rattle.block_rules.specs.declared.chain.Chain.{Chain}
use Rattle.block_rules.specs.declared.verdict.Verdict.{Verdict}
use Rattle.feed_frame.specs.Events.{events_of}
use Rattle.feed_run.specs.Answer.{Answer}
use Rattle.feed_run.specs.Machine.{Machine}
use Rattle.feed_run.specs.Status.{status_of}
use Rattle.feed_run.specs.declared.status.Status.TheVariants as Status
use Rattle.node_rules.specs.Machine.{Level, start, chain_of, issued, full_judge, event_in, never_stops}
use Rattle.compact_node.specs.Throughout.{full_verdicts, full_after}
use Rattle.bridge_prover.specs.Full.{history_of, judged_on}
use Rattle.clash_find.specs.Clashes.{TextClash}
use Rattle.audit_replay.specs.declared.audit.AuditLine.{AuditLine}
use Rattle.audit_replay.specs.declared.audit.AuditLine.TheVariants as Audited
use Rattle.audit_replay.specs.Audit.{AuditState, fresh_audit, next_audit, clash_on}
use Rattle.audit_replay.specs.Laws.{shown_by}
use Rattle.report_lines.specs.declared.line.Line.TheVariants as Line
use Rattle.report_lines.specs.Lines.{whole_line, clash_lines}
use Rattle.node_commands.specs.Answers.{answer_with}
use Rattle.node_commands.specs.Follow.{line_of, rules_of, chain_events}
use Rattle.node_commands.specs.Machine.{is_refused, end_line}

-- what contracts see of `Auditor`
pub record AuditorState : Type 0 where
  pub audit : AuditState
  pub events : ℕ
  pub refused : Bool

-- an auditor that was told nothing, and reads lean messages as one who watches these scripts
abbrev pub fresh_auditor : Net → Limits → List (List ℕ) → AuditorState
fresh_auditor net limits scripts = record { audit = fresh_audit net limits scripts; events = 0; refused = false }

-- what the auditor says of an event: nothing where it is forged
unfoldable pub judged_of : (List ℕ → Digest) → AuditorState → FeedEvent → Option Verdict
judged_of H a event = judged_on H a.audit.bridge (event_in event)

-- what was asked for was not done
abbrev pub refuses : Option Verdict → Bool
refuses None = false
refuses (Some verdict) = is_refused verdict

-- what it keeps behind an event
unfoldable pub next_auditor : (List ℕ → Digest) → AuditorState → FeedEvent → AuditorState
next_auditor H a event = record {
  audit = next_audit H a.audit (event_in event);
  events = a.events + 1;
  refused = a.refused || refuses (judged_of H a event);
}

-- the lines of two texts with one digest, behind so many events
abbrev pub clash_text : (events : ℕ) → Option TextClash → List ℕ
clash_text events None = []
clash_text events (Some c) = clash_lines events c.first c.second c.digest

-- the line of an event, and where it is forged the lines of what it shows
abbrev pub judged_text : Option Verdict → (events : ℕ) → Option TextClash → List ℕ
judged_text (Some verdict) events shown = line_of verdict
judged_text None events shown = clash_text events shown

-- the same of what the auditor answers
abbrev pub audited_text : (events : ℕ) → AuditLine → List ℕ
audited_text events (Audited.Verdict verdict) = line_of verdict
audited_text events (Audited.Clash c) = clash_text events (Some c)

-- what it prints of an event
unfoldable pub judged_line : (List ℕ → Digest) → AuditorState → FeedEvent → List ℕ
judged_line H a event = judged_text (judged_of H a event) a.events (clash_on H a.audit.bridge (event_in event))

-- what is live and what was issued, and the last line
abbrev pub supply_end : (refused : Bool) → (events live issued : ℕ) → Chain → Answer
supply_end refused events live issued chain =
    record { status = status_of refused; report = whole_line (Line.Supply live issued) ++ whole_line (end_line events chain); out = [] }

-- nothing more where a proof was forged
abbrev pub end_unless : (forged : Bool) → Answer → Answer
end_unless true answer = record { status = Status.Clash; report = []; out = [] }
end_unless false answer = answer

-- what it says at the end of a feed, where it was told of no forged event
abbrev pub audit_end : AuditorState → Answer
audit_end a =
    let s = a.audit.bridge in
    end_unless a.audit.ended (supply_end a.refused a.events (supply (history_of s)) (issued s.rules.net s.chain.blocks) s.chain)

-- an auditor takes the events of a feed up to the first forged one, and stores nothing
abbrev pub audit_machine : (List ℕ → Digest) → Machine AuditorState
audit_machine H = record {
  next = next_auditor H;
  said = judged_line H;
  sent = λ a event. [];
  over = λ a. a.audit.ended;
  at_end = audit_end;
  count = λ a. a.events;
}

-- ---- what `audit` answers to a feed: what the node that holds every output says of each event, up to the first forged one

-- the last lines, by a level of that node
abbrev pub level_end : (refused : Bool) → (events : ℕ) → Net → Level → Answer
level_end refused events net level = supply_end refused events (supply level.history) (issued net level.blocks) (chain_of level)

-- where no event is forged it is answered as any feed, and else the lines up to the forged one and its texts are all
abbrev pub answer_unless : (forged : Bool) → (whole : Answer) → (lines clash : List ℕ) → Answer
answer_unless true whole lines clash = record { status = Status.Clash; report = lines ++ clash; out = [] }
answer_unless false whole lines clash = whole

-- what is printed of some events: the lines up to the first forged one, and of the two texts that it shows
unfoldable pub audit_lines : (List ℕ → Digest) → Limits → Net → (scripts : List (List ℕ)) → List FeedEvent → List ℕ
audit_lines H limits net scripts events =
    let es = map event_in events in
    let told = full_verdicts H scripts (rules_of limits net) start es in
    flat_map line_of told ++ clash_text (length told) (shown_by H scripts (rules_of limits net) start es)

-- where no event is forged the lines of the events and the last ones, and else those up to the first forged event, and its two texts
unfoldable pub audit_answer : (List ℕ → Digest) → Limits → Net → (scripts : List (List ℕ)) → List ℕ → Answer
audit_answer H limits net scripts feed =
    let events = events_of net limits.bytes feed in
    let es = chain_events events in
    let rules = rules_of limits net in
    let told = full_verdicts H scripts rules start es in
    let level = (full_after H scripts rules start es).now in
    let lines = flat_map line_of told in
    answer_unless (not (never_stops rules (full_judge H scripts rules) start es))
    (answer_with lines [] (level_end (list_any is_refused told) (length events.events) net level) events.ending)
    lines (clash_text (length told) (shown_by H scripts rules start es))
