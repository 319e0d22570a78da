-- What `recheck` answers: at the first forged event what an auditor shows, and else what it says of the ticket.
use Rattle.std.proofs.Common.{◌≡◌, ◌⊎◌, inl, inr, ℕ, suc, ◌+◌, ◌<◌, ◌≤◌, ◌^◌, Bool, true, false, cond, List, [], ◌∷◌, ◌++◌, length, map, Option, Some}
use Rattle.std.proofs.Common.{None, Result, Ok, Err, IfOk, OnOk, IsErrOf, is_err, refl, sym, ap, ap₂, ◌∙◌, subst, arith, append-nil}
use Rattle.std.specs.Prelude.{not, is_none, if◌then◌else◌}
use Rattle.std.specs.List.{AllByRecursion}
use Rattle.std.proofs.lemmas.Bool.{lt-ltb, le-ltb}
use Rattle.std.proofs.lemmas.List.{length-map, map-append}
use Rattle.uo_base.specs.declared.event.Limits.{Limits}
use Rattle.uo_base.specs.declared.event.Net.{Net}
use Rattle.uo_base.specs.FeedEvent.{FeedEvent}
use Rattle.uo_base.specs.Reading.{IsBytes}
use Rattle.uo_digest.specs.declared.digest.Digest.{Digest}
use Rattle.forest_model.specs.Content.{IsDigest}
use Rattle.leaf_record.specs.History.{History}
use Rattle.block_codec.specs.Block.{BlockFits}
use Rattle.block_rules.specs.declared.chain.Chain.{Chain}
use Rattle.block_rules.specs.declared.verdict.Verdict.{Verdict}
use Rattle.feed_frame.specs.declared.fault.FeedFault.{FeedFault}
use Rattle.feed_frame.specs.Events.{events_of}
use Rattle.feed_frame.proofs.FeedBytes.{IsMadeOfBytes, events_bytes}
use Rattle.feed_run.specs.Answer.{Answer}
use Rattle.feed_run.specs.Machine.{Machine, goes, says, left_by, said_by, sent_by, wanted_end, TakesAll, TakesWanted, Wants}
use Rattle.feed_run.specs.Status.{is_stop}
use Rattle.feed_run.specs.declared.stop.Stop.{Stop}
use Rattle.feed_frame.specs.Streamed.{KeepsUp}
use Rattle.std.specs.Io.KnownBytes.{Appends}
use Rattle.std.proofs.KnownBytes.{Appends-nil}
use Rattle.uo_base.specs.Moved.{AppendsPart}
use Rattle.uo_base.proofs.PortLemmas.{AppendsPart-none}
use Rattle.feed_run.specs.declared.status.Status.{Status}
use Rattle.feed_run.specs.declared.status.Status.TheVariants as Statuses
use Rattle.node_rules.specs.Fitting.{EventFits}
use Rattle.node_rules.specs.Reading.{read}
use Rattle.node_rules.specs.Judging.{Rules}
use Rattle.node_rules.specs.Machine.{ChainEvent, BlockCame, State, start, full_judge, event_in, never_stops, verdict_before}
use Rattle.node_rules.proofs.Fitting.{read_event_fits}
use Rattle.compact_node.specs.Throughout.{full_verdicts, full_after, NoneIsForged}
use Rattle.bridge_prover.specs.Bridge.{BridgeState}
use Rattle.bridge_prover.specs.Full.{history_of, judged_on}
use Rattle.bridge_prover.specs.Standing.{IsBridge}
use Rattle.bridge_prover.specs.Watched.{scripts_of}
use Rattle.bridge_prover.proofs.Historied.{is_history, newest_history}
use Rattle.bridge_prover.proofs.Refining.{fresh_is_bridge}
use Rattle.clash_find.specs.Clashes.{TextClash}
use Rattle.audit_replay.specs.declared.audit.AuditLine.{AuditLine}
use Rattle.audit_replay.specs.declared.audit.AuditLine.TheVariants as Audited
use Rattle.audit_replay.specs.Audit.{AuditState, IsAudit, fresh_audit, next_audit, clash_on, verdict_in, ShowsClash}
use Rattle.audit_replay.specs.Laws.{verdicts_on, ends_at, audit_after, shown_or, shown_on, shown_by, AreShown, AuditsThroughout}
use Rattle.audit_replay.proofs.Auditing.{next_is_audit, fresh_is_audit}
use Rattle.audit_replay.proofs.Showing.{fresh_shows_forged}
use Rattle.audit_replay.proofs.Throughout.{fresh_is_full}
use Rattle.ticket_check.specs.declared.checked.Checked.{Checked}
use Rattle.ticket_check.specs.declared.checked.Checked.TheVariants as Said
use Rattle.ticket_check.specs.Checking.{said_of, rechecked_by, recheck_of, recheck_over, IsRechecked}
use Rattle.ticket_check.proofs.CheckLaws.{rechecked_is_right, recheck_same}
use Rattle.ticket_check.proofs.TicketLaws.{ticket_fits}
use Rattle.node_commands.specs.PriorText.{long_prior}
use Rattle.node_commands.specs.declared.bad_input.BadInput.{BadInput}
use Rattle.node_commands.specs.Answers.{bad_end, last_of, answer_with, served_feed}
use Rattle.node_commands.specs.Auditor.{clash_text, end_unless, answer_unless}
use Rattle.node_commands.specs.Follow.{rules_of}
use Rattle.node_commands.specs.Forging.{AreWanted, IsForgedBehind}
use Rattle.node_commands.specs.Meaning.{IsEnd}
use Rattle.node_commands.specs.Rechecking.{RecheckerState, next_rechecker, machine_ending, silent_end, shown_text, shown_of, shown_line, recheck_end}
use Rattle.node_commands.specs.Rechecking.{recheck_machine, Rechecked, with_list, recheck_start, rechecker_of, recheck_lines, recheck_answer}
use Rattle.node_commands.specs.Rechecking.{RechecksOver, ShowsAlone, RechecksFeed, RechecksAsBegun}
use Rattle.node_commands.specs.Runs.{NoPort, Serves, status_in}
use Rattle.node_commands.specs.Tickets.{told_as}
use Rattle.report_lines.specs.declared.line.Line.{Line}
use Rattle.node_commands.proofs.ServeLemmas.{wanted-same, OnOk-any, serves-last, Serves-same, Serves-quiet}
use Rattle.node_commands.proofs.TicketLemmas.{told-quiet}
use Rattle.node_commands.specs.Watching.{list_in}
use Rattle.node_commands.proofs.AuditLemmas.{none-if, goes-honest, after-bridge, shown-none}
use Rattle.node_commands.proofs.ForgingLemmas.{all-told, Stops, stops-at, no-verdict, one_of, block_bytes, all_fit, message_fits}

-- ---- one event

-- what is printed of the auditor's answer is the line of the event
pub shown-is : (H : List ℕ → Digest) (r : RecheckerState) (event : FeedEvent) (line : AuditLine)
    → verdict_in line ≡ judged_on H r.audit.bridge (event_in event)
    → ShowsClash H r.audit.bridge (event_in event) line → shown_of r.events line ≡ shown_line H r event
unfolding shown_line
shown-is H r event (Audited.Verdict verdict) says shows = ap (λ v. shown_text v r.events (clash_on H r.audit.bridge (event_in event))) says
shown-is H r event (Audited.Clash c) says shows =
    ap (clash_text r.events) (sym shows.1) ∙ ap (λ v. shown_text v r.events (clash_on H r.audit.bridge (event_in event))) says

module _ (H : List ℕ → Digest) where
  abbrev m : Machine RecheckerState
  m = recheck_machine H

  -- ---- behind a forged event nothing is done

  goes-over : (r : RecheckerState) (event : FeedEvent) (b : Bool) → r.audit.ended ≡ b → goes m r event ≡ cond b r (next_rechecker H r event)
  goes-over r event b e = ap (λ x. cond x r (next_rechecker H r event)) e

  says-over : (r : RecheckerState) (event : FeedEvent) (b : Bool) → r.audit.ended ≡ b → says m r event ≡ cond b [] (shown_line H r event)
  says-over r event b e = ap (λ x. cond x [] (shown_line H r event)) e

  left-over : (events : List FeedEvent) (r : RecheckerState) → r.audit.ended ≡ true → left_by m r events ≡ r
  left-over [] r e = refl
  left-over (event ∷ events) r e = ap (λ s. left_by m s events) (goes-over r event true e) ∙ left-over events r e

  said-over : (events : List FeedEvent) (r : RecheckerState) → r.audit.ended ≡ true → said_by m r events ≡ []
  said-over [] r e = refl
  said-over (event ∷ events) r e = ap₂ (λ w s. w ++ said_by m s events) (says-over r event true e) (goes-over r event true e) ∙ said-over events r e

  pub sent-none : (events : List FeedEvent) (r : RecheckerState) → sent_by m r events ≡ []
  sent-none [] r = refl
  sent-none (event ∷ events) r = ap (λ w. w ++ sent_by m (goes m r event) events) (none-if r.audit.ended) ∙ sent-none events (goes m r event)

  -- ---- the machine, by what an auditor says of a list of events

  abbrev told : RecheckerState → List FeedEvent → List Verdict
  told r events = verdicts_on H r.audit (map event_in events)

  abbrev shown : RecheckerState → List FeedEvent → Option TextClash
  shown r events = shown_on H r.audit (map event_in events)

  record IsTold (r : RecheckerState) (events : List FeedEvent) : Type 0 where
    said : said_by m r events ≡ clash_text (r.events + length (told r events)) (shown r events)
    audit : (left_by m r events).audit ≡ audit_after H r.audit (map event_in events)
    ticket : (left_by m r events).ticket ≡ r.ticket

  module _ (r : RecheckerState) (event : FeedEvent) (events : List FeedEvent) (going : r.audit.ended ≡ false) where
    abbrev next : RecheckerState
    next = next_rechecker H r event

    abbrev here : Option TextClash
    here = clash_on H r.audit.bridge (event_in event)

    abbrev judged : Option Verdict
    judged = judged_on H r.audit.bridge (event_in event)

    left-more : left_by m r (event ∷ events) ≡ left_by m next events
    left-more = ap (λ s. left_by m s events) (goes-over r event false going)

    said-more : said_by m r (event ∷ events) ≡ shown_line H r event ++ said_by m next events
    said-more = ap₂ (λ w s. w ++ said_by m s events) (says-over r event false going) (goes-over r event false going)

    -- the lines of both, where it says this of the first
    abbrev lines_with : Option Verdict → List Verdict → Option TextClash → List ℕ
    lines_with v later rest = clash_text (r.events + length (verdict_before v later)) (shown_or v here rest)

    last-told : judged ≡ None → IsTold r (event ∷ events)
    unfolding next_rechecker shown_line
    last-told none =
        let stops : next.audit.ended ≡ true = ap is_none none in
        let left : left_by m r (event ∷ events) ≡ next = left-more ∙ left-over events next stops in
        let later = verdicts_on H next.audit (map event_in events) in
        let rest = shown_on H next.audit (map event_in events) in
        let same : clash_text r.events here ≡ clash_text (r.events + 0) here =
        ap (λ k. clash_text k here) (let z : r.events ≡ r.events + 0 = omega arith in z) in
        record {
          said = said-more ∙ ap₂ (λ v w. shown_text v r.events here ++ w) none (said-over events next stops) ∙ append-nil (clash_text r.events here)
              ∙ same ∙ ap (λ v. lines_with v later rest) (sym none);
          audit = ap (λ (s : RecheckerState). s.audit) left
              ∙ ap (λ v. ends_at v next.audit (audit_after H next.audit (map event_in events))) (sym none);
          ticket = ap (λ (s : RecheckerState). s.ticket) left;
        }

    more-told : (v : Verdict) → judged ≡ Some v → IsTold next events → IsTold r (event ∷ events)
    unfolding next_rechecker shown_line
    more-told v some t =
        let later = verdicts_on H next.audit (map event_in events) in
        let rest = shown_on H next.audit (map event_in events) in
        let count : (r.events + 1) + length later ≡ r.events + suc (length later) = omega arith in
        record {
          said = said-more ∙ ap₂ (λ x w. shown_text x r.events here ++ w) some t.said ∙ ap (λ k. clash_text k rest) count
              ∙ ap (λ x. lines_with x later rest) (sym some);
          audit = ap (λ (s : RecheckerState). s.audit) left-more ∙ t.audit
              ∙ ap (λ x. ends_at x next.audit (audit_after H next.audit (map event_in events))) (sym some);
          ticket = ap (λ (s : RecheckerState). s.ticket) left-more ∙ t.ticket;
        }

  is-told : (events : List FeedEvent) (r : RecheckerState) → r.audit.ended ≡ false → IsTold r events
  unfolding next_rechecker
  is-told [] r going = record { said = refl; audit = refl; ticket = refl }
  is-told (event ∷ events) r going = by (judged_on H r.audit.bridge (event_in event)) refl (is-told events (next_rechecker H r event))
    where
      by : (v : Option Verdict) → judged_on H r.audit.bridge (event_in event) ≡ v
          → ((next_rechecker H r event).audit.ended ≡ false → IsTold (next_rechecker H r event) events) → IsTold r (event ∷ events)
      by None none later = last-told r event events going none
      by (Some v) some later = more-told r event events going v some (later (ap is_none some))

  -- a wanted event comes where the auditor has not ended
  pub wanted-at : (front later : List FeedEvent) (event : FeedEvent) (r : RecheckerState) → Wants m r (front ++ event ∷ later)
      → (left_by m r front).audit.ended ≡ false
  wanted-at [] later event r w = w.0
  wanted-at (f ∷ front) later event r w =
      ap (λ s. (left_by m s front).audit.ended) (goes-over r f false w.0) ∙ wanted-at front later event (next_rechecker H r f) w.1

  -- what an auditor keeps is such
  after-audit : (es : List ChainEvent) (s : AuditState) → AllByRecursion EventFits es → IsAudit H s.bridge
      → IsAudit H (audit_after H s es).bridge
  after-audit [] s fit is = is
  after-audit (e ∷ es) s fit is = by (judged_on H s.bridge e) (next_is_audit H s.bridge e is fit.0)
      (after-audit es (next_audit H s e) fit.1 (next_is_audit H s.bridge e is fit.0))
    where
      by : (v : Option Verdict) → IsAudit H (next_audit H s e).bridge
          → IsAudit H (audit_after H (next_audit H s e) es).bridge
          → IsAudit H (ends_at v (next_audit H s e) (audit_after H (next_audit H s e) es)).bridge
      by None next later = next
      by (Some v) next later = later

-- ---- beside the node that holds every output

module _ (H : List ℕ → Digest) (limits : Limits) (few : limits.leaves < 2 ^ 40) (net : Net) (begun : Rechecked) (events : List FeedEvent) where
  abbrev node_rules : Rules
  node_rules = rules_of limits net

  pub said-lines : said_by (recheck_machine H) (rechecker_of limits net begun) events ≡ recheck_lines H limits net begun events
  unfolding recheck_lines
  said-lines =
      let es = map event_in events in
      let throughout = fresh_is_full H net limits (scripts_of begun.list) few es in
      let told = full_verdicts H (scripts_of begun.list) node_rules start es in
      let count : 0 + length told ≡ length told = omega arith in
      (is-told H events (rechecker_of limits net begun) refl).said ∙ ap₂ (λ v x. clash_text (0 + length v) x) throughout.said throughout.shown
      ∙ ap (λ k. clash_text k (shown_by H (scripts_of begun.list) node_rules start es)) count

  wanted-front : Wants (recheck_machine H) (rechecker_of limits net begun) events → AreWanted H limits net (scripts_of begun.list) events
  wanted-front w front later event split =
      let fresh = rechecker_of limits net begun in
      let going = wanted-at H front later event fresh (subst (λ l. Wants (recheck_machine H) fresh l) split w) in
      goes-honest (never_stops node_rules (full_judge H (scripts_of begun.list) node_rules) start (map event_in front))
      (sym (fresh_is_full H net limits (scripts_of begun.list) few (map event_in front)).ended
      ∙ (sym (ap (λ (s : AuditState). s.ended) (is-told H front fresh refl).audit) ∙ going))

-- ---- the answer

module _ (H : List ℕ → Digest) (limits : Limits) (few : limits.leaves < 2 ^ 40) (net : Net) (begun : Rechecked) (feed : List ℕ) where
  abbrev scripts : List (List ℕ)
  scripts = scripts_of begun.list

  abbrev fresh : RecheckerState
  fresh = rechecker_of limits net begun

  abbrev rules : Rules
  rules = rules_of limits net

  abbrev events : List FeedEvent
  events = (events_of net limits.bytes feed).events

  abbrev ending : Option FeedFault
  ending = (events_of net limits.bytes feed).ending

  abbrev es : List ChainEvent
  es = map event_in events

  abbrev state : State
  state = full_after H scripts rules start es

  abbrev shows : Option TextClash
  shows = shown_on H fresh.audit es

  abbrev behind : AuditState
  behind = audit_after H fresh.audit es

  abbrev last : RecheckerState
  last = left_by (recheck_machine H) fresh events

  throughout : AuditsThroughout H scripts rules start fresh.audit es
  throughout = fresh_is_full H net limits scripts few es

  t : IsTold H fresh events
  t = is-told H events fresh refl

  -- the end by what the auditor keeps
  abbrev end_with : Bool → BridgeState → Answer
  end_with forged s = end_unless forged (told_as (recheck_of H s begun.ticket))

  end-is : recheck_end H last ≡ end_with behind.ended behind.bridge
  unfolding recheck_end
  end-is = ap₂ (λ (a : AuditState) (k : List ℕ). end_unless a.ended (told_as (recheck_of H a.bridge k))) t.audit t.ticket

  abbrev by_machine : Answer
  by_machine = served_feed (recheck_machine H) fresh net limits.bytes feed

  answer-is : by_machine ≡ answer_with (clash_text (length (verdicts_on H fresh.audit es)) shows) []
      (end_with behind.ended behind.bridge) (cond behind.ended None ending)
  unfolding served_feed
  answer-is =
      ap₂ (λ l w. answer_with l w (recheck_end H last) (wanted_end (recheck_machine H) last ending))
      (t.said ∙ ap (λ k. clash_text k shows) (let z : 0 + length (verdicts_on H fresh.audit es)
      ≡ length (verdicts_on H fresh.audit es) = omega arith in z)) (sent-none H events fresh)
      ∙ ap₂ (λ a b. answer_with (clash_text (length (verdicts_on H fresh.audit es)) shows) [] a (cond b None ending)) end-is
      (ap (λ (s : AuditState). s.ended) t.audit)

  -- ---- by the node that holds every output

  abbrev verdicts : List Verdict
  verdicts = full_verdicts H scripts rules start es

  abbrev node_shows : Option TextClash
  node_shows = shown_by H scripts rules start es

  abbrev node_says : Answer
  node_says = told_as (recheck_over H state.now.history state.now.tip begun.ticket)

  said-is : clash_text (length (verdicts_on H fresh.audit es)) shows ≡ clash_text (length verdicts) node_shows
  said-is = ap₂ (λ v x. clash_text (length v) x) throughout.said throughout.shown

  is-bridge : IsBridge H behind.bridge
  is-bridge = after-bridge H es fresh.audit (fresh_is_bridge H net limits (Some scripts) few)

  history-is : history_of behind.bridge ≡ state.now.history
  history-is = is_history H behind.bridge state.now.history (newest_history H state behind.bridge is-bridge throughout.stands)

  tip-is : behind.bridge.chain.tip ≡ state.now.tip
  tip-is = ap (λ (c : Chain). c.tip) throughout.stands.chain

  node-judges : told_as (recheck_of H behind.bridge begun.ticket) ≡ node_says
  node-judges = ap told_as (recheck_same H behind.bridge begun.ticket is-bridge
      ∙ ap₂ (λ (us : History) (d : Digest). recheck_over H us d begun.ticket) history-is tip-is)

  node-answer : (b : Bool) → not (never_stops rules (full_judge H scripts rules) start es) ≡ b
      → answer_unless b (answer_with [] [] node_says ending) [] (clash_text (length verdicts) node_shows) ≡ recheck_answer H limits net begun feed
  unfolding recheck_answer recheck_lines
  node-answer b e = ap (λ x. answer_unless x (answer_with [] [] node_says ending) [] (clash_text (length verdicts) node_shows)) (sym e)

  same-by : (b : Bool) → behind.ended ≡ b → by_machine ≡ recheck_answer H limits net begun feed
  same-by true e =
      let text = clash_text (length (verdicts_on H fresh.audit es)) shows in
      answer-is ∙ ap (λ b. answer_with text [] (end_with b behind.bridge) (cond b None ending)) e
      ∙ ap (λ l. let a : Answer = record { status = Statuses.Clash; report = l; out = [] } in a) (append-nil text ∙ said-is)
      ∙ node-answer true (sym throughout.ended ∙ e)
  same-by false e =
      let none : shows ≡ None = shown-none H es fresh.audit e in
      answer-is
      ∙ ap₂ (λ x b. answer_with (clash_text (length (verdicts_on H fresh.audit es)) x) [] (end_with b behind.bridge) (cond b None ending)) none e
      ∙ ap (λ a. answer_with [] [] a ending) node-judges ∙ node-answer false (sym throughout.ended ∙ e)

  -- what the machine answers is that
  pub same-answer : by_machine ≡ recheck_answer H limits net begun feed
  same-answer = same-by behind.ended refl

  -- ---- no event is forged

  module _ (long : (x : List ℕ) → IsDigest (H x)) (bytes : IsBytes feed) (ticket_bytes : IsBytes begun.ticket) (whole : ending ≡ None)
      (honest : NoneIsForged H scripts rules start es) where
    goes-on : behind.ended ≡ false
    goes-on = throughout.ended ∙ ap not honest

    answered : recheck_answer H limits net begun feed ≡ told_as (recheck_of H behind.bridge begun.ticket)
    answered =
        sym same-answer ∙ answer-is
        ∙ ap₂ (λ x b. answer_with (clash_text (length (verdicts_on H fresh.audit es)) x) [] (end_with b behind.bridge) (cond b None ending))
        (shown-none H es fresh.audit goes-on) goes-on
        ∙ ap (answer_with [] [] (told_as (recheck_of H behind.bridge begun.ticket))) whole

    fits : AllByRecursion EventFits es
    fits = all_fit events (events_bytes net limits.bytes feed bytes)

    audit : IsAudit H behind.bridge
    audit = after-audit H es fresh.audit fits (fresh_is_audit H net limits (Some scripts) few)

    rechecks-over : RechecksOver H state.now begun.ticket (recheck_answer H limits net begun feed)
    rechecks-over = record {
      none = λ fault e. answered ∙ ap (λ r. told_as (said_of (rechecked_by H behind.bridge) r)) e;
      is = λ k e. (
        rechecked_by H behind.bridge k,
        answered ∙ ap (λ r. told_as (said_of (rechecked_by H behind.bridge) r)) e,
        subst (λ (h : History). IsRechecked H h state.now.tip k (rechecked_by H behind.bridge k)) history-is
            (subst (λ (d : Digest). IsRechecked H (history_of behind.bridge) d k (rechecked_by H behind.bridge k)) tip-is
            (rechecked_is_right H long behind.bridge k audit (ticket_fits begun.ticket k ticket_bytes e))),
      );
    }

  -- ---- the first that is forged

  module _ (long : (x : List ℕ) → IsDigest (H x)) (front later : List FeedEvent) (event : FeedEvent) (bytes : IsBytes feed)
      (split : events ≡ front ++ event ∷ later) (f : IsForgedBehind H limits net scripts front event) where
    abbrev forging : ChainEvent
    forging = BlockCame (Some f.block) (read f.message)

    made : AllByRecursion IsMadeOfBytes front × IsMadeOfBytes event
    made = one_of IsMadeOfBytes front event later (subst (AllByRecursion IsMadeOfBytes) split (events_bytes net limits.bytes feed bytes))

    split_in : es ≡ map event_in front ++ forging ∷ map event_in later
    split_in = ap (map event_in) split ∙ map-append event_in front (event ∷ later) ∙ ap (λ x. map event_in front ++ x ∷ map event_in later) f.is

    block_fits : BlockFits f.block
    block_fits = subst EventFits f.is (read_event_fits event (block_bytes event made.1))

    shown_there : AreShown H (shown_on H (fresh_audit net limits scripts) (map event_in front ++ forging ∷ map event_in later)) scripts
        (full_after H scripts rules start (map event_in front)).now f.block f.message
    shown_there = fresh_shows_forged H long net limits scripts few (map event_in front) (map event_in later) f.block f.message (all_fit front made.0)
        block_fits (message_fits event f.block f.message made.1 f.is) f.honest f.forged

    stopped : Stops H scripts rules start (map event_in front) (map event_in later) forging
    stopped = stops-at H scripts rules (map event_in front) (map event_in later) forging start f.honest
        (no-verdict H scripts rules (full_after H scripts rules start (map event_in front)) f.block (read f.message) f.forged)

    ended-is : behind.ended ≡ true
    ended-is = throughout.ended ∙ ap not (ap (never_stops rules (full_judge H scripts rules) start) split_in ∙ stopped.stops)

    count_is : length (verdicts_on H fresh.audit es) ≡ length front
    count_is =
        ap length (throughout.said ∙ (ap (λ x. full_verdicts H scripts rules start x) split_in ∙ stopped.said))
        ∙ (all-told H scripts rules (map event_in front) start f.honest ∙ length-map front event_in)

    shows-alone : ShowsAlone H (full_after H scripts rules start (map event_in front)).now (length front) f.block f.message scripts
        (recheck_answer H limits net begun feed)
    shows-alone = record {
      clash = shown_there.clash;
      is = shown_there.is;
      answered =
          sym same-answer ∙ answer-is
          ∙ ap (λ b. answer_with (clash_text (length (verdicts_on H fresh.audit es)) shows) [] (end_with b behind.bridge)
          (cond b None ending)) ended-is
          ∙ ap (λ l. let a : Answer = record { status = Statuses.Clash; report = l; out = [] } in a)
          (append-nil (clash_text (length (verdicts_on H fresh.audit es)) shows)
          ∙ ap₂ clash_text count_is (ap (shown_on H (fresh_audit net limits scripts)) split_in ∙ shown_there.shows));
    }

  rechecks-feed : ((x : List ℕ) → IsDigest (H x)) → RechecksFeed H limits net begun feed
  rechecks-feed long = record { honest = rechecks-over long; forged = shows-alone long }

pub recheck-claims : (H : List ℕ → Digest) → ((x : List ℕ) → IsDigest (H x)) → (limits : Limits) → limits.leaves < 2 ^ 40
    → (net : Net) (feed : List ℕ) (begun : Result Rechecked BadInput) → RechecksAsBegun H limits net feed begun
recheck-claims H long limits few net feed (Ok begun) = rechecks-feed H limits few net begun feed long
recheck-claims H long limits few net feed (Err bad) = tt

-- ---- how it ends

pub recheck-good : (named : Bool) (limit : ℕ) (prior watch : List ℕ) → length prior ≤ limit → (list : Option (List (List ℕ)))
    → list_in named limit watch ≡ Ok list → recheck_start named limit prior watch ≡ Ok (record { ticket = prior; list = list })
unfolding recheck_start
recheck-good named limit prior watch short list usable =
    ap (λ (b : Bool). if b then Err (long_prior limit) else with_list prior (list_in named limit watch)) (le-ltb limit (length prior) short)
    ∙ ap (with_list prior) usable

told-ends : (c : Checked) → IsEnd (told_as c).status ⊎ ((told_as c).status ≡ Statuses.Clash)
told-ends Said.Form = inl (inr (inl refl))
told-ends (Said.Version v) = inl (inr (inl refl))
told-ends Said.Tip = inl (inr (inl refl))
told-ends (Said.Refused why) = inl (inr (inl refl))
told-ends (Said.Live txid index amount) = inl (inl refl)
told-ends (Said.Clash c) = inr refl

unless-ends : (forged : Bool) (c : Checked) (fault : Option FeedFault) (clash : List ℕ) → fault ≡ None
    → let a = answer_unless forged (answer_with [] [] (told_as c) fault) [] clash in IsEnd a.status ⊎ (a.status ≡ Statuses.Clash)
unless-ends true c fault clash whole = inr refl
unless-ends false c fault clash whole =
    subst (λ (x : Option FeedFault). IsEnd (last_of (told_as c) (bad_end x)).status ⊎ ((last_of (told_as c) (bad_end x)).status ≡ Statuses.Clash))
    (sym whole) (told-ends c)

pub recheck-ends : (H : List ℕ → Digest) (limits : Limits) (net : Net) (begun : Rechecked) (feed : List ℕ)
    → (events_of net limits.bytes feed).ending ≡ None
    → IsEnd (recheck_answer H limits net begun feed).status ⊎ ((recheck_answer H limits net begun feed).status ≡ Statuses.Clash)
unfolding recheck_answer
recheck-ends H limits net begun feed whole =
    let events = events_of net limits.bytes feed in
    let es = map event_in events.events in
    let scripts = scripts_of begun.list in
    let rules = rules_of limits net in
    let level = (full_after H scripts rules start es).now in
    unless-ends (not (never_stops rules (full_judge H scripts rules) start es)) (recheck_over H level.history level.tip begun.ticket) events.ending
    (recheck_lines H limits net begun events.events) whole

-- ---- what is said at the end

pub over-status : (H : List ℕ → Digest) (r : RecheckerState) → r.audit.ended ≡ true → Statuses.Clash ≡ (recheck_end H r).status
unfolding recheck_end
over-status H r e = sym (ap (λ b. (end_unless b (told_as (recheck_of H r.audit.bridge r.ticket))).status) e)

pub over-said : (H : List ℕ → Digest) (r : RecheckerState) (text : List ℕ) → r.audit.ended ≡ true → text ≡ text ++ (recheck_end H r).report
unfolding recheck_end
over-said H r text e = sym (ap (λ b. text ++ (end_unless b (told_as (recheck_of H r.audit.bridge r.ticket))).report) e ∙ append-nil text)

going-end : (H : List ℕ → Digest) (r : RecheckerState) (c : Checked) → r.audit.ended ≡ false → c ≡ recheck_of H r.audit.bridge r.ticket
    → told_as c ≡ recheck_end H r
unfolding recheck_end
going-end H r c e is = ap told_as is ∙ sym (ap (λ b. end_unless b (told_as (recheck_of H r.audit.bridge r.ticket))) e)

pub going-status : (H : List ℕ → Digest) (r : RecheckerState) (c : Checked) {E : Type 0} (x : Result Status E) → r.audit.ended ≡ false
    → c ≡ recheck_of H r.audit.bridge r.ticket → IfOk x (λ status. status ≡ (told_as c).status)
    → IfOk x (λ status. status ≡ (recheck_end H r).status)
going-status H r c x e is p = subst (λ (a : Answer). IfOk x (λ status. status ≡ a.status)) (going-end H r c e is) p

pub going-said : (H : List ℕ → Digest) (r : RecheckerState) (c : Checked) {T E : Type 0} (x : Result T E) (old new : List ℕ) → r.audit.ended ≡ false
    → c ≡ recheck_of H r.audit.bridge r.ticket → OnOk x (new ≡ old ++ (told_as c).report)
    → OnOk x (new ≡ old ++ (recheck_end H r).report)
going-said H r c x old new e is p = subst (λ (a : Answer). OnOk x (new ≡ old ++ a.report)) (going-end H r c e is) p

told-goes : (c : Checked) → is_stop (told_as c).status ≡ false
told-goes Said.Form = refl
told-goes (Said.Version v) = refl
told-goes Said.Tip = refl
told-goes (Said.Refused why) = refl
told-goes (Said.Live txid index amount) = refl
told-goes (Said.Clash c) = refl

unless-goes : (forged : Bool) (c : Checked) → is_stop (end_unless forged (told_as c)).status ≡ false
unless-goes true c = refl
unless-goes false c = told-goes c

pub end-goes : (H : List ℕ → Digest) (r : RecheckerState) → is_stop (recheck_end H r).status ≡ false
unfolding recheck_end
end-goes H r = unless-goes r.audit.ended (recheck_of H r.audit.bridge r.ticket)

-- ---- nothing is stored

unless-quiet : (forged : Bool) (c : Checked) → (end_unless forged (told_as c)).out ≡ []
unless-quiet true c = refl
unless-quiet false c = told-quiet c

pub end-quiet : (H : List ℕ → Digest) (r : RecheckerState) → (recheck_end H r).out ≡ []
unfolding recheck_end
end-quiet H r = unless-quiet r.audit.ended (recheck_of H r.audit.bridge r.ticket)

last-quiet : (a : Answer) (bad : Option (Status × Line)) → a.out ≡ [] → (last_of a bad).out ≡ []
last-quiet a None e = e
last-quiet a (Some (status, line)) e = refl

stores : (H : List ℕ → Digest) (r : RecheckerState) (net : Net) (limit : ℕ) (text : List ℕ)
    → (served_feed (recheck_machine H) r net limit text).out ≡ []
unfolding served_feed
stores H r net limit text =
    let events = events_of net limit text in
    let last = left_by (recheck_machine H) r events.events in
    ap₂ (λ w o. w ++ o) (sent-none H events.events r)
    (last-quiet (recheck_end H last) (bad_end (wanted_end (recheck_machine H) last events.ending)) (end-quiet H last))

pub serves-quietly : (H : List ℕ → Digest) (r : RecheckerState) (net : Net) (limit : ℕ) {feed feed' report report' o o' : Option (List ℕ)}
    {wants : List FeedEvent → Type 0} {untouched : Type 0} (out : Option (List ℕ)) (stopped : Bool) (status : Status)
    → Serves wants (said_by (recheck_machine H) r) (sent_by (recheck_machine H) r) (served_feed (recheck_machine H) r net limit) net limit feed feed'
    report report' o o' untouched stopped status
    → Serves wants (said_by (recheck_machine H) r) (λ events. []) (served_feed (recheck_machine H) r net limit) net limit feed feed' report report'
    out out NoPort stopped status
serves-quietly H r net limit {o = o} {o' = o'} out stopped status s =
    Serves-quiet (stores H r net limit) o o' out stopped status
    (Serves-same (λ events w. w) (λ events. refl) (λ events. sent-none H events r) (λ text. refl) stopped status s)

-- the handler of the events alone takes them as the machine does
pub takes-all : (H : List ℕ → Digest) (start : RecheckerState) (net : Net) (limit : ℕ) (state : RecheckerState)
    (feed report report' out out' : Option (List ℕ)) {untouched : Type 0} (ending : Option FeedFault)
    → TakesAll (machine_ending H silent_end) start net limit state feed report report' out out' untouched ending
    → TakesAll (recheck_machine H) start net limit state feed report report' out out' untouched ending
takes-all H start net limit state feed report report' out out' ending t =
    record { text = t.text; told = t.told; ends = t.ends; reached = t.reached; reported = t.reported; sent = t.sent; quiet = t.quiet }

-- and wants them as it does
wants-all : (H : List ℕ → Digest) (start : RecheckerState) (events : List FeedEvent) → Wants (machine_ending H silent_end) start events
    → Wants (recheck_machine H) start events
wants-all H start [] w = tt
wants-all H start (event ∷ events) w = (w.0, wants-all H ((recheck_machine H).next start event) events w.1)

-- ---- what it begins with

pub start-long : (named : Bool) (limit : ℕ) (prior watch : List ℕ) (bad : BadInput) → bad ≡ long_prior limit → limit < length prior
    → Err bad ≡ recheck_start named limit prior watch
unfolding recheck_start
start-long named limit prior watch bad is long =
    ap (λ b. Err b) is ∙ sym (ap (λ (b : Bool). if b then Err (long_prior limit) else with_list prior (list_in named limit watch))
    (lt-ltb limit (length prior) long))

pub start-read : (named : Bool) (limit : ℕ) (prior watch : List ℕ) (list : Result (Option (List (List ℕ))) BadInput) → length prior ≤ limit
    → list ≡ list_in named limit watch → with_list prior list ≡ recheck_start named limit prior watch
unfolding recheck_start
start-read named limit prior watch list short is =
    ap (with_list prior) is ∙ sym (ap (λ (b : Bool). if b then Err (long_prior limit) else with_list prior (list_in named limit watch))
    (le-ltb limit (length prior) short))

-- what a call over the machine gave is what it gave of the node that holds every output
pub recheck-serves : (H : List ℕ → Digest) (limits : Limits) → limits.leaves < 2 ^ 40 → (net : Net) (begun : Rechecked) (r : RecheckerState)
    → r ≡ rechecker_of limits net begun → {feed feed' report report' out : Option (List ℕ)} (stopped : Bool) (status : Status)
    → Serves (Wants (recheck_machine H) r) (said_by (recheck_machine H) r) (λ events. []) (served_feed (recheck_machine H) r net limits.bytes) net
    limits.bytes feed feed' report report' out out NoPort stopped status
    → Serves (AreWanted H limits net (scripts_of begun.list)) (recheck_lines H limits net begun) (λ events. []) (recheck_answer H limits net begun)
    net limits.bytes feed feed' report report' out out NoPort stopped status
recheck-serves H limits few net begun r e stopped status s =
    Serves-same (λ events w. wanted-front H limits few net begun events (subst (λ b. Wants (recheck_machine H) b events) e w))
    (λ events. ap (λ b. said_by (recheck_machine H) b events) e ∙ said-lines H limits few net begun events) (λ events. refl)
    (λ text. ap (λ b. served_feed (recheck_machine H) b net limits.bytes text) e ∙ same-answer H limits few net begun text) stopped status s

-- all events were taken, and then the last line or a part of it was written
pub serves-judged : (H : List ℕ → Digest) (start : RecheckerState) (net : Net) (limit : ℕ) (feed feed' report report' report'' o o' : Option (List ℕ))
    (state : RecheckerState) {untouched : Type 0} (ending : Option FeedFault)
    → TakesAll (machine_ending H silent_end) start net limit state feed report report' o o' untouched ending → (is : Answer)
    → is ≡ last_of (recheck_end H state) (bad_end ending) → is.out ≡ [] → (out : Option (List ℕ))
    → (r : Result Status Stop) → IfOk r (λ status. status ≡ is.status) → OnOk r (Appends report' report'' is.report)
    → AppendsPart report' report'' is.report → (IsErrOf r Stop.ReadFault → ⊥)
    → KeepsUp (said_by (recheck_machine H) start) net limit feed feed' report report'
    → TakesWanted (Wants (machine_ending H silent_end) start) net limit feed feed'
    → Serves (Wants (recheck_machine H) start) (said_by (recheck_machine H) start) (λ events. []) (served_feed (recheck_machine H) start net limit)
    net limit feed feed' report report'' out out NoPort (is_err r) (status_in r)
serves-judged H start net limit feed feed' report report' report'' o o' state ending t is e quiet out r p q part never kept wanted =
    let none : Appends o' o' is.out = subst (Appends o' o') (sym quiet) (Appends-nil o') in
    serves-quietly H start net limit out (is_err r) (status_in r)
    (serves-last (recheck_machine H) start net limit feed feed' report report' report'' o o' o' state ending
    (takes-all H start net limit state feed report report' o o' ending t) is e r p q (OnOk-any r none) part (AppendsPart-none o' is.out)
    (inr none) never kept (wanted-same (wants-all H start) wanted) (λ nothing same. same))
