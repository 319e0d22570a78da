-- What `audit` writes of a feed is what an auditor says and shows, and that is what the node says that holds every output, up to the first forged
-- event.
use Rattle.std.proofs.Common.{◌≡◌, ℕ, suc, ◌+◌, ◌<◌, ◌^◌, Bool, true, false, cond, ◌||◌, List, [], ◌∷◌, ◌++◌, length, map, Option, Some, None, refl}
use Rattle.std.proofs.Common.{sym, ap, ap₂, ◌∙◌, arith, append-nil, append_assoc, subst}
use Rattle.std.specs.Prelude.{not, is_none}
use Rattle.std.specs.List.{flat_map, list_any}
use Rattle.std.proofs.lemmas.Bool.{false≢true}
use Rattle.uo_base.specs.declared.event.Limits.{Limits}
use Rattle.uo_base.specs.declared.event.Net.{Net}
use Rattle.uo_base.specs.FeedEvent.{FeedEvent}
use Rattle.uo_digest.specs.declared.digest.Digest.{Digest}
use Rattle.leaf_record.specs.History.{supply}
use Rattle.block_rules.specs.declared.chain.Chain.{Chain}
use Rattle.block_rules.specs.declared.verdict.Verdict.{Verdict}
use Rattle.feed_frame.specs.declared.fault.FeedFault.{FeedFault}
use Rattle.feed_frame.specs.Events.{events_of}
use Rattle.feed_run.specs.declared.status.Status.{Status}
use Rattle.feed_run.specs.declared.status.Status.TheVariants as Statuses
use Rattle.feed_run.specs.Answer.{Answer}
use Rattle.feed_run.specs.Machine.{Machine, goes, says, left_by, said_by, sent_by, wanted_end, Wants}
use Rattle.node_rules.specs.Judging.{Rules}
use Rattle.node_rules.specs.Machine.{ChainEvent, State, start, issued, full_judge, event_in, never_stops, verdict_before}
use Rattle.compact_node.specs.Throughout.{full_verdicts, full_after}
use Rattle.bridge_prover.specs.Standing.{IsBridge}
use Rattle.bridge_prover.specs.Full.{history_of, judged_on}
use Rattle.bridge_prover.proofs.Fully.{next_judged_is_bridge}
use Rattle.bridge_prover.proofs.Refining.{fresh_is_bridge}
use Rattle.clash_find.specs.Clashes.{TextClash}
use Rattle.audit_replay.specs.declared.audit.AuditLine.{AuditLine}
use Rattle.audit_replay.specs.declared.audit.AuditLine.TheVariants as Audited
use Rattle.audit_replay.specs.Audit.{AuditState, next_audit, clash_on, verdict_in, ShowsClash}
use Rattle.audit_replay.specs.Laws.{verdicts_on, ends_at, audit_after, shown_or, shown_on, shown_by, AuditsThroughout}
use Rattle.audit_replay.proofs.Auditing.{judged_rules}
use Rattle.audit_replay.proofs.Throughout.{fresh_is_full, supply_is_of_level}
use Rattle.report_lines.specs.declared.line.Line.{Line}
use Rattle.node_commands.specs.Answers.{bad_end, last_of, answer_with, served, served_feed}
use Rattle.node_commands.specs.Auditor.{AuditorState, fresh_auditor, judged_of, refuses, next_auditor, clash_text, judged_text, audited_text}
use Rattle.node_commands.specs.Auditor.{judged_line, supply_end, end_unless, audit_end, audit_machine, level_end, answer_unless, audit_answer}
use Rattle.node_commands.specs.Auditor.{audit_lines}
use Rattle.node_commands.specs.Follow.{line_of, rules_of}
use Rattle.node_commands.specs.Forging.{AreWanted}
use Rattle.node_commands.specs.Machine.{is_refused}
use Rattle.node_commands.specs.Runs.{NoPort, Serves}
use Rattle.node_commands.proofs.FollowLemmas.{or_none, or_again}
use Rattle.node_commands.proofs.ServeLemmas.{Serves-same, Serves-quiet}

-- ---- one event

-- what is printed of the auditor's answer is the line of the event
pub audited-is : (H : List ℕ → Digest) (a : AuditorState) (event : FeedEvent) (line : AuditLine)
    → verdict_in line ≡ judged_on H a.audit.bridge (event_in event)
    → ShowsClash H a.audit.bridge (event_in event) line → audited_text a.events line ≡ judged_line H a event
unfolding judged_line judged_of
audited-is H a event (Audited.Verdict verdict) says shows = ap (λ v. judged_text v a.events (clash_on H a.audit.bridge (event_in event))) says
audited-is H a event (Audited.Clash c) says shows =
    ap (clash_text a.events) (sym shows.1) ∙ ap (λ v. judged_text v a.events (clash_on H a.audit.bridge (event_in event))) says

pub none-if : (b : Bool) → cond b (let l : List ℕ = [] in l) [] ≡ []
none-if true = refl
none-if false = refl

pub goes-honest : (b : Bool) → not b ≡ false → b ≡ true
goes-honest true e = refl
goes-honest false e = absurd (false≢true (sym e))

module _ (H : List ℕ → Digest) where
  abbrev m : Machine AuditorState
  m = audit_machine H

  -- ---- behind a forged event nothing is done

  goes-over : (a : AuditorState) (event : FeedEvent) (b : Bool) → a.audit.ended ≡ b → goes m a event ≡ cond b a (next_auditor H a event)
  goes-over a event b e = ap (λ x. cond x a (next_auditor H a event)) e

  says-over : (a : AuditorState) (event : FeedEvent) (b : Bool) → a.audit.ended ≡ b → says m a event ≡ cond b [] (judged_line H a event)
  says-over a event b e = ap (λ x. cond x [] (judged_line H a event)) e

  left-over : (events : List FeedEvent) (a : AuditorState) → a.audit.ended ≡ true → left_by m a events ≡ a
  left-over [] a e = refl
  left-over (event ∷ events) a e = ap (λ s. left_by m s events) (goes-over a event true e) ∙ left-over events a e

  said-over : (events : List FeedEvent) (a : AuditorState) → a.audit.ended ≡ true → said_by m a events ≡ []
  said-over [] a e = refl
  said-over (event ∷ events) a e = ap₂ (λ w s. w ++ said_by m s events) (says-over a event true e) (goes-over a event true e) ∙ said-over events a e

  sent-none : (events : List FeedEvent) (a : AuditorState) → sent_by m a events ≡ []
  sent-none [] a = refl
  sent-none (event ∷ events) a = ap (λ w. w ++ sent_by m (goes m a event) events) (none-if a.audit.ended) ∙ sent-none events (goes m a event)

  -- ---- the machine, by what an auditor says of a list of events

  abbrev told : AuditorState → List FeedEvent → List Verdict
  told a events = verdicts_on H a.audit (map event_in events)

  abbrev shown : AuditorState → List FeedEvent → Option TextClash
  shown a events = shown_on H a.audit (map event_in events)

  record IsTold (a : AuditorState) (events : List FeedEvent) : Type 0 where
    said : said_by m a events ≡ flat_map line_of (told a events) ++ clash_text (a.events + length (told a events)) (shown a events)
    audit : (left_by m a events).audit ≡ audit_after H a.audit (map event_in events)
    counts : (left_by m a events).audit.ended ≡ false → (left_by m a events).events ≡ a.events + length events
    refusals : (left_by m a events).audit.ended ≡ false → (left_by m a events).refused ≡ (a.refused || list_any is_refused (told a events))

  module _ (a : AuditorState) (event : FeedEvent) (events : List FeedEvent) (going : a.audit.ended ≡ false) where
    abbrev next : AuditorState
    next = next_auditor H a event

    abbrev here : Option TextClash
    here = clash_on H a.audit.bridge (event_in event)

    left-more : left_by m a (event ∷ events) ≡ left_by m next events
    left-more = ap (λ s. left_by m s events) (goes-over a event false going)

    said-more : said_by m a (event ∷ events) ≡ judged_line H a event ++ said_by m next events
    said-more = ap₂ (λ w s. w ++ said_by m s events) (says-over a event false going) (goes-over a event false going)

    -- the lines of both, where it says this of the first
    abbrev lines_with : Option Verdict → List Verdict → Option TextClash → List ℕ
    lines_with v later rest = flat_map line_of (verdict_before v later)
        ++ clash_text (a.events + length (verdict_before v later)) (shown_or v here rest)

    last-told : judged_of H a event ≡ None → IsTold a (event ∷ events)
    unfolding judged_of next_auditor judged_line
    last-told none =
        let stops : next.audit.ended ≡ true = ap is_none none in
        let left : left_by m a (event ∷ events) ≡ next = left-more ∙ left-over events next stops in
        let later = verdicts_on H next.audit (map event_in events) in
        let rest = shown_on H next.audit (map event_in events) in
        let same : clash_text a.events here ≡ clash_text (a.events + 0) here =
        ap (λ k. clash_text k here) (let z : a.events ≡ a.events + 0 = omega arith in z) in
        record {
          said = said-more ∙ ap₂ (λ v w. judged_text v a.events here ++ w) none (said-over events next stops) ∙ append-nil (clash_text a.events here)
              ∙ same ∙ ap (λ v. lines_with v later rest) (sym none);
          audit = ap (λ (s : AuditorState). s.audit) left ∙ ap (λ v. ends_at v next.audit (audit_after H next.audit (map event_in events)))
              (sym none);
          counts = λ e. absurd (false≢true (sym e ∙ (ap (λ (s : AuditorState). s.audit.ended) left ∙ stops)));
          refusals = λ e. absurd (false≢true (sym e ∙ (ap (λ (s : AuditorState). s.audit.ended) left ∙ stops)));
        }

    more-told : (v : Verdict) → judged_of H a event ≡ Some v → IsTold next events → IsTold a (event ∷ events)
    unfolding judged_of next_auditor judged_line
    more-told v some t =
        let later = verdicts_on H next.audit (map event_in events) in
        let rest = shown_on H next.audit (map event_in events) in
        let ended = λ (e : (left_by m a (event ∷ events)).audit.ended ≡ false). sym (ap (λ (s : AuditorState). s.audit.ended) left-more) ∙ e in
        let count : (a.events + 1) + length later ≡ a.events + suc (length later) = omega arith in
        let events_count : (a.events + 1) + length events ≡ a.events + suc (length events) = omega arith in
        let line : List ℕ = line_of v in
        record {
          said =
              said-more ∙ ap₂ (λ x w. judged_text x a.events here ++ w) some t.said
              ∙ sym (append_assoc line (flat_map line_of later) (clash_text ((a.events + 1) + length later) rest))
              ∙ ap (λ k. (line ++ flat_map line_of later) ++ clash_text k rest) count ∙ ap (λ x. lines_with x later rest) (sym some);
          audit = ap (λ (s : AuditorState). s.audit) left-more ∙ t.audit
              ∙ ap (λ x. ends_at x next.audit (audit_after H next.audit (map event_in events))) (sym some);
          counts = λ e. ap (λ (s : AuditorState). s.events) left-more ∙ t.counts (ended e) ∙ events_count;
          refusals =
              λ e.
              ap (λ (s : AuditorState). s.refused) left-more ∙ t.refusals (ended e)
              ∙ ap (λ x. (a.refused || refuses x) || list_any is_refused later) some
              ∙ or_again a.refused (is_refused v) (list_any is_refused later)
              ∙ ap (λ x. a.refused || list_any is_refused (verdict_before x later)) (sym some);
        }

  is-told : (events : List FeedEvent) (a : AuditorState) → a.audit.ended ≡ false → IsTold a events
  unfolding judged_of next_auditor
  is-told [] a going = record {
    said = refl;
    audit = refl;
    counts = λ e. let z : a.events ≡ a.events + 0 = omega arith in z;
    refusals = λ e. or_none a.refused;
  }
  is-told (event ∷ events) a going = by (judged_of H a event) refl (is-told events (next_auditor H a event))
    where
      by : (v : Option Verdict) → judged_of H a event ≡ v → ((next_auditor H a event).audit.ended ≡ false → IsTold (next_auditor H a event) events)
          → IsTold a (event ∷ events)
      by None none later = last-told a event events going none
      by (Some v) some later = more-told a event events going v some (later (ap is_none some))

  -- ---- what an auditor keeps

  after-rules : (es : List ChainEvent) (s : AuditState) → (audit_after H s es).bridge.rules ≡ s.bridge.rules
  after-rules [] s = refl
  after-rules (e ∷ es) s = by (judged_on H s.bridge e) (after-rules es (next_audit H s e))
    where
      by : (v : Option Verdict) → (audit_after H (next_audit H s e) es).bridge.rules ≡ (next_audit H s e).bridge.rules
          → (ends_at v (next_audit H s e) (audit_after H (next_audit H s e) es)).bridge.rules ≡ s.bridge.rules
      by None later = judged_rules H s.bridge e
      by (Some v) later = later ∙ judged_rules H s.bridge e

  pub after-bridge : (es : List ChainEvent) (s : AuditState) → IsBridge H s.bridge → IsBridge H (audit_after H s es).bridge
  after-bridge [] s is = is
  after-bridge (e ∷ es) s is = by (judged_on H s.bridge e)
      (after-bridge es (next_audit H s e) (next_judged_is_bridge H s.bridge e is))
    where
      by : (v : Option Verdict) → IsBridge H (audit_after H (next_audit H s e) es).bridge
          → IsBridge H (ends_at v (next_audit H s e) (audit_after H (next_audit H s e) es)).bridge
      by None later = next_judged_is_bridge H s.bridge e is
      by (Some v) later = later

  -- nothing is shown where nothing is forged
  pub shown-none : (es : List ChainEvent) (s : AuditState) → (audit_after H s es).ended ≡ false → shown_on H s es ≡ None
  shown-none [] s e = refl
  shown-none (x ∷ es) s e = by (judged_on H s.bridge x) refl (shown-none es (next_audit H s x)) e
    where
      by : (v : Option Verdict) → judged_on H s.bridge x ≡ v
          → ((audit_after H (next_audit H s x) es).ended ≡ false → shown_on H (next_audit H s x) es ≡ None)
          → (ends_at v (next_audit H s x) (audit_after H (next_audit H s x) es)).ended ≡ false
          → shown_or v (clash_on H s.bridge x) (shown_on H (next_audit H s x) es) ≡ None
      by None none later e = absurd (false≢true (sym e ∙ ap is_none none))
      by (Some v) some later e = later e

  -- ---- beside the node that holds every output

  -- a wanted event comes where the auditor has not ended
  wanted-at : (front later : List FeedEvent) (event : FeedEvent) (a : AuditorState) → Wants m a (front ++ event ∷ later)
      → (left_by m a front).audit.ended ≡ false
  wanted-at [] later event a w = w.0
  wanted-at (f ∷ front) later event a w =
      ap (λ s. (left_by m s front).audit.ended) (goes-over a f false w.0) ∙ wanted-at front later event (next_auditor H a f) w.1

  module _ (limits : Limits) (net : Net) (scripts : List (List ℕ)) (few : limits.leaves < 2 ^ 40) where
    pub said-lines : (events : List FeedEvent) → said_by m (fresh_auditor net limits scripts) events ≡ audit_lines H limits net scripts events
    unfolding audit_lines
    said-lines events =
        let es = map event_in events in
        let rules = rules_of limits net in
        let throughout = fresh_is_full H net limits scripts few es in
        let told = full_verdicts H scripts rules start es in
        let shows = shown_by H scripts rules start es in
        let count : 0 + length told ≡ length told = omega arith in
        (is-told events (fresh_auditor net limits scripts) refl).said
        ∙ ap₂ (λ v x. flat_map line_of v ++ clash_text (0 + length v) x) throughout.said throughout.shown
        ∙ ap (λ k. flat_map line_of told ++ clash_text k shows) count

    wanted-front : (events : List FeedEvent) → Wants m (fresh_auditor net limits scripts) events → AreWanted H limits net scripts events
    wanted-front events w front later event split =
        let fresh = fresh_auditor net limits scripts in
        let going = wanted-at front later event fresh (subst (λ l. Wants m fresh l) split w) in
        goes-honest (never_stops (rules_of limits net) (full_judge H scripts (rules_of limits net)) start (map event_in front))
        (sym (fresh_is_full H net limits scripts few (map event_in front)).ended
        ∙ (sym (ap (λ (s : AuditState). s.ended) (is-told front fresh refl).audit) ∙ going))

  -- ---- the whole answer

  module _ (limits : Limits) (net : Net) (scripts : List (List ℕ)) (few : limits.leaves < 2 ^ 40) (feed : List ℕ) where
    abbrev fresh : AuditorState
    fresh = fresh_auditor net limits scripts

    abbrev rules : Rules
    rules = rules_of limits net

    abbrev events : List FeedEvent
    events = (events_of net limits.bytes feed).events

    abbrev ending : Option FeedFault
    ending = (events_of net limits.bytes feed).ending

    abbrev es : List ChainEvent
    es = map event_in events

    abbrev verdicts : List Verdict
    verdicts = full_verdicts H scripts rules start es

    abbrev state : State
    state = full_after H scripts rules start es

    abbrev shows : Option TextClash
    shows = shown_by H scripts rules start es

    abbrev behind : AuditState
    behind = audit_after H fresh.audit es

    abbrev last : AuditorState
    last = left_by m fresh events

    abbrev whole : Answer
    whole = answer_with (flat_map line_of verdicts) [] (level_end (list_any is_refused verdicts) (length events) net state.now) ending

    throughout : AuditsThroughout H scripts rules start fresh.audit es
    throughout = fresh_is_full H net limits scripts few es

    t : IsTold fresh events
    t = is-told events fresh refl

    said : said_by m fresh events ≡ flat_map line_of verdicts ++ clash_text (length verdicts) shows
    unfolding audit_lines
    said = said-lines limits net scripts few events

    forged-is : behind.ended ≡ not (never_stops rules (full_judge H scripts rules) start es)
    forged-is = throughout.ended

    ended-is : last.audit.ended ≡ behind.ended
    ended-is = ap (λ (s : AuditState). s.ended) t.audit

    served_is : (b : Bool) → last.audit.ended ≡ b → served m fresh (events_of net limits.bytes feed)
        ≡ answer_with (flat_map line_of verdicts ++ clash_text (length verdicts) shows) []
        (end_unless b (supply_end last.refused last.events (supply (history_of last.audit.bridge))
        (issued last.audit.bridge.rules.net last.audit.bridge.chain.blocks) last.audit.bridge.chain)) (cond b None ending)
    served_is b e =
        ap₂ (λ l w. answer_with l w (audit_end last) (wanted_end m last ending)) said (sent-none events fresh)
        ∙ ap (λ x. answer_with (flat_map line_of verdicts ++ clash_text (length verdicts) shows) []
        (end_unless x (supply_end last.refused last.events (supply (history_of last.audit.bridge))
        (issued last.audit.bridge.rules.net last.audit.bridge.chain.blocks) last.audit.bridge.chain)) (cond x None ending)) e

    -- by what the auditor keeps then
    abbrev end_by : Bool → ℕ → AuditState → Answer
    end_by refused count s = supply_end refused count (supply (history_of s.bridge)) (issued s.bridge.rules.net s.bridge.chain.blocks) s.bridge.chain

    end-is : last.audit.ended ≡ false → end_by last.refused last.events last.audit
        ≡ level_end (list_any is_refused verdicts) (length events) net state.now
    end-is going =
        let is = after-bridge es fresh.audit (fresh_is_bridge H net limits (Some scripts) few) in
        let value = supply_is_of_level H state behind.bridge is throughout.stands in
        let rules_are = after-rules es fresh.audit in
        let count : 0 + length events ≡ length events = omega arith in
        let issued_is : issued behind.bridge.rules.net behind.bridge.chain.blocks ≡ issued net state.now.blocks =
        value.1 ∙ ap (λ (r : Rules). issued r.net state.now.blocks) rules_are in
        ap (λ r. end_by r last.events last.audit) (t.refusals going ∙ ap (list_any is_refused) throughout.said)
        ∙ ap (λ k. end_by (list_any is_refused verdicts) k last.audit) (t.counts going ∙ count)
        ∙ ap (end_by (list_any is_refused verdicts) (length events)) t.audit
        ∙ ap (λ x. supply_end (list_any is_refused verdicts) (length events) x (issued behind.bridge.rules.net behind.bridge.chain.blocks)
        behind.bridge.chain) value.0
        ∙ ap₂ (λ x c. supply_end (list_any is_refused verdicts) (length events) (supply state.now.history) x c) issued_is throughout.stands.chain

    answer-is : (b : Bool) → not (never_stops rules (full_judge H scripts rules) start es) ≡ b
        → answer_unless b whole (flat_map line_of verdicts) (clash_text (length verdicts) shows) ≡ audit_answer H limits net scripts feed
    unfolding audit_answer
    answer-is b e = ap (λ x. answer_unless x whole (flat_map line_of verdicts) (clash_text (length verdicts) shows)) (sym e)

    by-forged : (b : Bool) → last.audit.ended ≡ b → served m fresh (events_of net limits.bytes feed) ≡ audit_answer H limits net scripts feed
    by-forged true e =
        let text = flat_map line_of verdicts ++ clash_text (length verdicts) shows in
        served_is true e ∙ ap (λ l. let a : Answer = record { status = Statuses.Clash; report = l; out = [] } in a) (append-nil text)
        ∙ answer-is true (sym forged-is ∙ (sym ended-is ∙ e))
    by-forged false e =
        let none : shows ≡ None = sym throughout.shown ∙ shown-none es fresh.audit (sym ended-is ∙ e) in
        let lines : flat_map line_of verdicts ++ clash_text (length verdicts) shows ≡ flat_map line_of verdicts =
        ap (λ x. flat_map line_of verdicts ++ clash_text (length verdicts) x) none ∙ append-nil (flat_map line_of verdicts) in
        served_is false e ∙ ap₂ (λ l a. answer_with l [] a ending) lines (end-is e)
        ∙ answer-is false (sym forged-is ∙ (sym ended-is ∙ e))

    served-fresh : served_feed m fresh net limits.bytes feed ≡ audit_answer H limits net scripts feed
    unfolding served_feed
    served-fresh = by-forged last.audit.ended refl

  pub served-audit : (limits : Limits) (net : Net) (scripts : List (List ℕ)) → limits.leaves < 2 ^ 40 → (a : AuditorState)
      → a ≡ fresh_auditor net limits scripts
      → (feed : List ℕ) → served_feed (audit_machine H) a net limits.bytes feed ≡ audit_answer H limits net scripts feed
  served-audit limits net scripts few a e feed = ap (λ s. served_feed (audit_machine H) s net limits.bytes feed) e
      ∙ served-fresh limits net scripts few feed

-- ---- nothing is stored

last-none : (refused : Bool) (count live issued : ℕ) (chain : Chain) (bad : Option (Status × Line))
    → (last_of (supply_end refused count live issued chain) bad).out ≡ []
last-none refused count live issued chain None = refl
last-none refused count live issued chain (Some (status, line)) = refl

unless-none : (forged : Bool) (usual : Answer) (lines clash : List ℕ) → usual.out ≡ [] → (answer_unless forged usual lines clash).out ≡ []
unless-none true usual lines clash e = refl
unless-none false usual lines clash e = e

pub audit-stores : (H : List ℕ → Digest) (limits : Limits) (net : Net) (scripts : List (List ℕ)) (feed : List ℕ)
    → (audit_answer H limits net scripts feed).out ≡ []
unfolding audit_answer
audit-stores H limits net scripts feed = unless-none _ _ _ _ (last-none _ _ _ _ _ (bad_end (events_of net limits.bytes feed).ending))

-- what a call over the machine gave is what it gave of the node that holds every output
pub audit-serves : (H : List ℕ → Digest) (limits : Limits) (net : Net) (scripts : List (List ℕ)) → limits.leaves < 2 ^ 40 → (a : AuditorState)
    → a ≡ fresh_auditor net limits scripts
    → {feed feed' report report' o o' : Option (List ℕ)} {untouched : Type 0} (out : Option (List ℕ)) (stopped : Bool) (status : Status)
    → Serves (Wants (audit_machine H) a) (said_by (audit_machine H) a) (sent_by (audit_machine H) a)
    (served_feed (audit_machine H) a net limits.bytes) net limits.bytes feed feed' report report' o o' untouched stopped status
    → Serves (AreWanted H limits net scripts) (audit_lines H limits net scripts) (λ events. []) (audit_answer H limits net scripts) net
    limits.bytes feed feed' report report' out out NoPort stopped status
audit-serves H limits net scripts few a e {o = o} {o' = o'} out stopped status s =
    Serves-quiet (audit-stores H limits net scripts) o o' out stopped status
    (Serves-same (λ events w. wanted-front H limits net scripts few events (subst (λ b. Wants (audit_machine H) b events) e w))
    (λ events. ap (λ b. said_by (audit_machine H) b events) e ∙ said-lines H limits net scripts few events) (λ events. sent-none H events a)
    (served-audit H limits net scripts few a e) stopped status s)
