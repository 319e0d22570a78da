-- What `audit` answers beside the node that holds every output, and what it shows at the first forged event.
use Rattle.std.proofs.Common.{◌≡◌, ℕ, suc, ◌<◌, ◌^◌, Bool, true, false, List, [], ◌∷◌, ◌++◌, length, map, Option, Some, None, refl, sym, ap, subst}
use Rattle.std.proofs.Common.{◌∙◌, arith}
use Rattle.std.specs.Prelude.{not, ◌&&◌, is_some, nat_le, if◌then◌else◌}
use Rattle.std.specs.List.{flat_map, list_any, AllByRecursion}
use Rattle.std.proofs.lemmas.Bool.{false≢true}
use Rattle.std.proofs.lemmas.List.{length-map, map-append}
use Rattle.std.proofs.lemmas.Option.{none-some}
use Rattle.uo_base.specs.declared.event.Limits.{Limits}
use Rattle.uo_base.specs.declared.event.Net.{Net}
use Rattle.uo_base.specs.FeedEvent.{FeedEvent}
use Rattle.uo_base.specs.FeedEvent as Feed
use Rattle.uo_base.specs.Reading.{IsBytes}
use Rattle.uo_digest.specs.declared.digest.Digest.{Digest}
use Rattle.forest_model.specs.Content.{IsDigest}
use Rattle.block_codec.specs.Block.{Block, BlockFits}
use Rattle.block_codec.specs.Reading.{block_in}
use Rattle.proof_wire.specs.BlockProof.{ProofFits}
use Rattle.block_rules.specs.declared.chain.Chain.{Chain}
use Rattle.block_rules.specs.declared.refusal.Refusal.{Refusal}
use Rattle.block_rules.specs.declared.verdict.Verdict.{Verdict}
use Rattle.block_rules.specs.declared.verdict.Verdict.TheVariants.{TooDeep}
use Rattle.clash_find.specs.Clashes.{TextClash}
use Rattle.compact_node.specs.Throughout.{full_verdicts, full_after, NoneIsForged}
use Rattle.feed_frame.specs.declared.fault.FeedFault.{FeedFault}
use Rattle.feed_frame.specs.declared.fault.FeedFault.TheVariants as Fault
use Rattle.feed_frame.specs.Events.{events_of}
use Rattle.feed_run.specs.declared.status.Status.{Status}
use Rattle.feed_run.specs.Answer.{Answer}
use Rattle.feed_run.specs.Status.{code_of}
use Rattle.node_rules.specs.Messages.{Message}
use Rattle.node_rules.specs.Reading.{Handed, nothing, unread, read, message_in, handed_in}
use Rattle.node_rules.specs.Fitting.{AreEventBytes, EventFits}
use Rattle.node_rules.specs.Judging.{Rules, Evidence, refusal, full, is_forged}
use Rattle.node_rules.specs.Machine.{ChainEvent, BlockCame, RollbackCame, StrayCame, State, Outcome, start, chain_of, full_judge, by_refusal}
use Rattle.node_rules.specs.Machine.{by_evidence, back, rolled_back, step, goes_on, verdict_before, never_stops, event_in}
use Rattle.node_rules.proofs.Fitting.{read_event_fits}
use Rattle.node_rules.proofs.MessageLaws.{read_is_text}
use Rattle.block_rules.specs.Blocks.{external}
use Rattle.audit_replay.specs.Laws.{shown_by, AreShown}
use Rattle.audit_replay.proofs.Showing.{full_shows_forged}
use Rattle.node_commands.specs.Answers.{bad_end, last_of, answer_with}
use Rattle.node_commands.specs.Auditor.{clash_text, supply_end, level_end, answer_unless, audit_answer}
use Rattle.node_commands.specs.Follow.{line_of, rules_of}
use Rattle.node_commands.specs.Forging.{IsForgedBehind, HasForged, ShowsTexts, AuditsFeed}
use Rattle.node_commands.specs.Machine.{is_refused}
use Rattle.feed_frame.proofs.FeedBytes.{IsMadeOfBytes, events_bytes}

-- ---- the node that holds every output stops at the first forged event

module _ (H : List ℕ → Digest) (scripts : List (List ℕ)) (rules : Rules) where
  -- it says something of each event before
  pub all-told : (es : List ChainEvent) (t : State) → NoneIsForged H scripts rules t es
      → length (full_verdicts H scripts rules t es) ≡ length es
  all-told [] t honest = refl
  all-told (e ∷ es) t honest = by (step rules (full_judge H scripts rules) t e).verdict honest
      (all-told es (step rules (full_judge H scripts rules) t e).state)
    where
      by : (v : Option Verdict) → (is_some v && never_stops rules (full_judge H scripts rules)
          (step rules (full_judge H scripts rules) t e).state es) ≡ true
          → (NoneIsForged H scripts rules (step rules (full_judge H scripts rules) t e).state es
          → length (full_verdicts H scripts rules (step rules (full_judge H scripts rules) t e).state es) ≡ length es)
          → length (verdict_before v (full_verdicts H scripts rules (step rules (full_judge H scripts rules) t e).state es))
          ≡ length (e ∷ es)
      by None honest later = absurd (false≢true honest)
      by (Some v) honest later = ap suc (later honest)

  -- and no more
  pub record Stops (t : State) (front later : List ChainEvent) (e : ChainEvent) : Type 0 where
    pub said : full_verdicts H scripts rules t (front ++ e ∷ later) ≡ full_verdicts H scripts rules t front
    pub stops : never_stops rules (full_judge H scripts rules) t (front ++ e ∷ later) ≡ false

  pub stops-at : (front later : List ChainEvent) (e : ChainEvent) (t : State) → NoneIsForged H scripts rules t front
      → (step rules (full_judge H scripts rules) (full_after H scripts rules t front) e).verdict ≡ None → Stops t front later e
  stops-at [] later e t honest none = record {
    said = ap (λ v. verdict_before v (full_verdicts H scripts rules (step rules (full_judge H scripts rules) t e).state later))
        none;
    stops = ap (λ v. is_some v && never_stops rules (full_judge H scripts rules)
        (step rules (full_judge H scripts rules) t e).state later) none;
  }
  stops-at (f ∷ front) later e t honest none =
      by (step rules (full_judge H scripts rules) t f).verdict refl honest none
      (stops-at front later e (step rules (full_judge H scripts rules) t f).state)
    where
      by : (v : Option Verdict) → (step rules (full_judge H scripts rules) t f).verdict ≡ v
          → (is_some v && never_stops rules (full_judge H scripts rules) (step rules (full_judge H scripts rules) t f).state
          front) ≡ true
          → (step rules (full_judge H scripts rules) (goes_on v t
          (full_after H scripts rules (step rules (full_judge H scripts rules) t f).state front)) e).verdict ≡ None
          → (NoneIsForged H scripts rules (step rules (full_judge H scripts rules) t f).state front
          → (step rules (full_judge H scripts rules) (full_after H scripts rules
          (step rules (full_judge H scripts rules) t f).state front) e).verdict ≡ None
          → Stops (step rules (full_judge H scripts rules) t f).state front later e)
          → Stops t (f ∷ front) later e
      by None is honest none go = absurd (false≢true honest)
      by (Some v) is honest none go =
          let w = go honest none in
          record {
            said =
                ap (λ x. verdict_before x (full_verdicts H scripts rules (step rules (full_judge H scripts rules) t f).state
                (front ++ e ∷ later))) is ∙ ap (λ l. v ∷ l) w.said
                ∙ sym (ap (λ x. verdict_before x (full_verdicts H scripts rules
                (step rules (full_judge H scripts rules) t f).state front)) is);
            stops = ap (λ x. is_some x && never_stops rules (full_judge H scripts rules)
                (step rules (full_judge H scripts rules) t f).state (front ++ e ∷ later)) is ∙ w.stops;
          }

  -- it has no verdict on a forged one
  pub no-verdict : (t : State) (b : Block) (handed : Handed) → is_forged H scripts rules (chain_of t.now) t.now.history b handed ≡ true
      → (step rules (full_judge H scripts rules) t (BlockCame (Some b) handed)).verdict ≡ None
  no-verdict t b handed forged =
      ap (λ (f : Bool). (by_evidence rules t b
      (if f then None else Some (full H scripts t.now.history (external b t.now.blocks) handed))).verdict) forged

-- ---- an event on which it has no verdict is forged

pub record IsForgedNow (H : List ℕ → Digest) (scripts : List (List ℕ)) (rules : Rules) (t : State) (e : ChainEvent) : Type 0 where
  pub block : Block
  pub message : Message
  pub is : e ≡ BlockCame (Some block) (read message)
  pub forged : is_forged H scripts rules (chain_of t.now) t.now.history block (read message) ≡ true

module _ (H : List ℕ → Digest) (scripts : List (List ℕ)) (rules : Rules) where
  not_both : (x : Bool) → (x && false) ≡ true → ⊥
  not_both true e = false≢true e
  not_both false e = false≢true e

  -- there is a message beside it
  with-message : (t : State) (b : Block) (handed : Handed) → is_forged H scripts rules (chain_of t.now) t.now.history b handed ≡ true
      → IsForgedNow H scripts rules t (BlockCame (Some b) handed)
  with-message t b nothing e = absurd (not_both _ e)
  with-message t b (unread why) e = absurd (not_both _ e)
  with-message t b (read m) e = record { block = b; message = m; is = refl; forged = e }

  judged : (t : State) (b : Block) (evidence : Evidence) (why : Option Refusal) → (by_refusal t b evidence why).verdict ≡ None → ⊥
  judged t b evidence None e = none-some _ (sym e)
  judged t b evidence (Some why) e = none-some _ (sym e)

  forged-here : (t : State) (e : ChainEvent) → (step rules (full_judge H scripts rules) t e).verdict ≡ None
      → IsForgedNow H scripts rules t e
  forged-here t (BlockCame None handed) none = absurd (none-some _ (sym none))
  forged-here t (BlockCame (Some b) handed) none = by (is_forged H scripts rules (chain_of t.now) t.now.history b handed) refl none
    where
      by : (f : Bool) → is_forged H scripts rules (chain_of t.now) t.now.history b handed ≡ f
          → (by_evidence rules t b (if f then None else Some (full H scripts t.now.history (external b t.now.blocks) handed))).verdict
          ≡ None → IsForgedNow H scripts rules t (BlockCame (Some b) handed)
      by true forged none = with-message t b handed forged
      by false honest none =
          let evidence = full H scripts t.now.history (external b t.now.blocks) handed in
          absurd (judged t b evidence (refusal rules (chain_of t.now) b evidence) none)
  forged-here t (RollbackCame k) none = absurd (by (nat_le k (length t.older)) none)
    where
      by : (f : Bool) → (if f then rolled_back k (back k t.now t.older) else
          (let o : Outcome = record { verdict = Some (TooDeep k (length t.older)); state = t } in o)).verdict ≡ None → ⊥
      by true e = none-some _ (sym e)
      by false e = none-some _ (sym e)
  forged-here t StrayCame none = absurd (none-some _ (sym none))

  -- the first of a list on which it has none
  pub record HasForgedFrom (t : State) (events : List FeedEvent) : Type 0 where
    pub front : List FeedEvent
    pub event : FeedEvent
    pub later : List FeedEvent
    pub split : events ≡ front ++ event ∷ later
    pub honest : NoneIsForged H scripts rules t (map event_in front)
    pub now : IsForgedNow H scripts rules (full_after H scripts rules t (map event_in front)) (event_in event)

  pub first-forged : (events : List FeedEvent) (t : State) → never_stops rules (full_judge H scripts rules) t (map event_in events) ≡ false
      → HasForgedFrom t events
  first-forged [] t stops = absurd (false≢true (sym stops))
  first-forged (event ∷ events) t stops =
      by (step rules (full_judge H scripts rules) t (event_in event)).verdict refl stops
      (first-forged events (step rules (full_judge H scripts rules) t (event_in event)).state)
    where
      by : (v : Option Verdict) → (step rules (full_judge H scripts rules) t (event_in event)).verdict ≡ v
          → (is_some v && never_stops rules (full_judge H scripts rules)
          (step rules (full_judge H scripts rules) t (event_in event)).state (map event_in events)) ≡ false
          → (never_stops rules (full_judge H scripts rules) (step rules (full_judge H scripts rules) t (event_in event)).state
          (map event_in events) ≡ false
          → HasForgedFrom (step rules (full_judge H scripts rules) t (event_in event)).state events)
          → HasForgedFrom t (event ∷ events)
      by None none stops go = record {
        front = [];
        event = event;
        later = events;
        split = refl;
        honest = refl;
        now = forged-here t (event_in event) none;
      }
      by (Some v) some stops go =
          let w = go stops in
          let rest = (step rules (full_judge H scripts rules) t (event_in event)).state in
          record {
            front = event ∷ w.front;
            event = w.event;
            later = w.later;
            split = ap (λ l. event ∷ l) w.split;
            honest = ap (λ x. is_some x && never_stops rules (full_judge H scripts rules) rest (map event_in w.front)) some ∙ w.honest;
            now = subst (λ x. IsForgedNow H scripts rules (goes_on x t (full_after H scripts rules rest (map event_in w.front)))
                (event_in w.event)) (sym some) w.now;
          }

-- ---- what a forged event of bytes is made of

-- the event is one of a list of events
pub one_of : (P : FeedEvent → Type 0) (front : List FeedEvent) (event : FeedEvent) (later : List FeedEvent)
    → AllByRecursion P (front ++ event ∷ later) → AllByRecursion P front × P event
one_of P [] event later h = (tt, h.0)
one_of P (f ∷ front) event later h = let w = one_of P front event later h.1 in ((h.0, w.0), w.1)

pub block_bytes : (event : FeedEvent) → IsMadeOfBytes event → AreEventBytes event
block_bytes (Feed.BlockCame bytes None) h = h
block_bytes (Feed.BlockCame bytes (Some message)) h = h.0
block_bytes (Feed.RollbackCame count) h = tt
block_bytes Feed.StrayCame h = tt

pub all_fit : (events : List FeedEvent) → AllByRecursion IsMadeOfBytes events → AllByRecursion EventFits (map event_in events)
all_fit [] h = tt
all_fit (event ∷ events) h = (read_event_fits event (block_bytes event h.0), all_fit events h.1)

same_message : (x y : Option Block) (h k : Handed) → BlockCame x h ≡ BlockCame y k → h ≡ k
same_message x y h k e = cc

same_read : (m n : Message) → read m ≡ read n → m ≡ n
same_read m n e = cc

pub message_fits : (event : FeedEvent) (b : Block) (m : Message) → IsMadeOfBytes event → event_in event ≡ BlockCame (Some b) (read m)
    → ProofFits m.proof
message_fits (Feed.BlockCame bytes None) b m h e = absurd (let z = same_message (block_in bytes) (Some b) (handed_in None) (read m) e in cc)
message_fits (Feed.BlockCame bytes (Some message)) b m h e =
    (read_is_text message m h.1 (same_message (block_in bytes) (Some b) (message_in message) (read m) e)).0
message_fits (Feed.RollbackCame count) b m h e = absurd cc
message_fits Feed.StrayCame b m h e = absurd cc

-- ---- no other answer has the status of a clash

code-differs : (s : Status) → s ≡ Status.Clash → code_of s ≡ 4
code-differs s e = ap code_of e

last-other : (refused : Bool) (count live issued : ℕ) (chain : Chain) (fault : Option FeedFault)
    → (last_of (supply_end refused count live issued chain) (bad_end fault)).status ≡ Status.Clash → ⊥
last-other true count live issued chain None e = absurd (omega (arith, code-differs _ e))
last-other false count live issued chain None e = absurd (omega (arith, code-differs _ e))
last-other refused count live issued chain (Some (Fault.Magic offset found)) e = absurd (omega (arith, code-differs _ e))
last-other refused count live issued chain (Some (Fault.Cut offset missing)) e = absurd (omega (arith, code-differs _ e))
last-other refused count live issued chain (Some (Fault.TooLong offset length)) e = absurd (omega (arith, code-differs _ e))
last-other refused count live issued chain (Some (Fault.BadRollback offset length)) e = absurd (omega (arith, code-differs _ e))
last-other refused count live issued chain (Some (Fault.Limit bytes)) e = absurd (omega (arith, code-differs _ e))
last-other true count live issued chain (Some Fault.ReadFault) e = absurd (omega (arith, code-differs _ e))
last-other false count live issued chain (Some Fault.ReadFault) e = absurd (omega (arith, code-differs _ e))
last-other true count live issued chain (Some Fault.NoMemory) e = absurd (omega (arith, code-differs _ e))
last-other false count live issued chain (Some Fault.NoMemory) e = absurd (omega (arith, code-differs _ e))

-- ---- the answer

module _ (H : List ℕ → Digest) (long : (x : List ℕ) → IsDigest (H x)) (limits : Limits) (net : Net) (scripts : List (List ℕ))
    (few : limits.leaves < 2 ^ 40) (feed : List ℕ) where
  abbrev events : List FeedEvent
  events = (events_of net limits.bytes feed).events

  abbrev ending : Option FeedFault
  ending = (events_of net limits.bytes feed).ending

  abbrev rules : Rules
  rules = rules_of limits net

  abbrev whole_by : List Verdict → Answer
  whole_by told = answer_with (flat_map line_of told) []
      (level_end (list_any is_refused told) (length events) net (full_after H scripts rules start (map event_in events)).now) ending

  abbrev goes : Bool
  goes = never_stops rules (full_judge H scripts rules) start (map event_in events)

  abbrev told : List Verdict
  told = full_verdicts H scripts rules start (map event_in events)

  abbrev answer_by : (goes : Bool) (told : List Verdict) (shown : Option TextClash) → Answer
  answer_by goes told shown = answer_unless (not goes) (whole_by told) (flat_map line_of told) (clash_text (length told) shown)

  answer-is : audit_answer H limits net scripts feed ≡ answer_by goes told (shown_by H scripts rules start (map event_in events))
  unfolding audit_answer
  answer-is = refl

  honest-answer : goes ≡ true → audit_answer H limits net scripts feed ≡ whole_by told
  honest-answer honest = answer-is ∙ ap (λ b. answer_by b told (shown_by H scripts rules start (map event_in events))) honest

  module _ (front later : List FeedEvent) (event : FeedEvent) (bytes : IsBytes feed) (split : events ≡ front ++ event ∷ later)
      (f : IsForgedBehind H limits net scripts front event) where
    abbrev forging : ChainEvent
    forging = BlockCame (Some f.block) (read f.message)

    made : AllByRecursion IsMadeOfBytes front × IsMadeOfBytes event
    made = one_of IsMadeOfBytes front event later (subst (AllByRecursion IsMadeOfBytes) split (events_bytes net limits.bytes feed bytes))

    split_in : map event_in events ≡ map event_in front ++ forging ∷ map event_in later
    split_in = ap (map event_in) split ∙ map-append event_in front (event ∷ later) ∙ ap (λ x. map event_in front ++ x ∷ map event_in later) f.is

    block_fits : BlockFits f.block
    block_fits = subst EventFits f.is (read_event_fits event (block_bytes event made.1))

    shown : AreShown H (shown_by H scripts rules start (map event_in front ++ forging ∷ map event_in later)) scripts
        (full_after H scripts rules start (map event_in front)).now f.block f.message
    shown = full_shows_forged H long net limits scripts few (map event_in front) (map event_in later) f.block f.message (all_fit front made.0)
        block_fits (message_fits event f.block f.message made.1 f.is) f.honest f.forged

    stopped : Stops H scripts rules start (map event_in front) (map event_in later) forging
    stopped = stops-at H scripts rules (map event_in front) (map event_in later) forging start f.honest
        (no-verdict H scripts rules (full_after H scripts rules start (map event_in front)) f.block (read f.message) f.forged)

    abbrev before : List Verdict
    before = full_verdicts H scripts rules start (map event_in front)

    told_is : told ≡ before
    told_is = ap (full_verdicts H scripts rules start) split_in ∙ stopped.said

    count_is : length before ≡ length front
    count_is = all-told H scripts rules (map event_in front) start f.honest ∙ length-map front event_in

    shows-texts : ShowsTexts H limits net scripts front f.block f.message (audit_answer H limits net scripts feed)
    shows-texts = record {
      clash = shown.clash;
      is = shown.is;
      answered =
          answer-is ∙ ap (λ b. answer_by b told (shown_by H scripts rules start (map event_in events)))
          (ap (never_stops rules (full_judge H scripts rules) start) split_in ∙ stopped.stops)
          ∙ ap (λ l. answer_by false l (shown_by H scripts rules start (map event_in events))) told_is
          ∙ ap (answer_by false before) (ap (shown_by H scripts rules start) split_in ∙ shown.shows)
          ∙ ap (λ k. let a : Answer = record {
            status = Status.Clash;
            report = flat_map line_of before ++ clash_text k (Some shown.clash);
            out = [];
          } in a) count_is;
    }

  forged-told : HasForged H limits net scripts events → goes ≡ false
  forged-told f =
      let front = map event_in f.front in
      let later = map event_in f.later in
      let forging = BlockCame (Some f.is.block) (read f.is.message) in
      let stopped = stops-at H scripts rules front later forging start f.is.honest
      (no-verdict H scripts rules (full_after H scripts rules start front) f.is.block (read f.is.message) f.is.forged) in
      ap (λ l. never_stops rules (full_judge H scripts rules) start (map event_in l)) f.split
      ∙ ap (never_stops rules (full_judge H scripts rules) start)
      (map-append event_in f.front (f.event ∷ f.later) ∙ ap (λ x. front ++ x ∷ later) f.is.is)
      ∙ stopped.stops

  forged-shown : goes ≡ false → HasForged H limits net scripts events
  forged-shown stops =
      let w = first-forged H scripts rules events start stops in
      record {
        front = w.front;
        event = w.event;
        later = w.later;
        split = w.split;
        is = record { honest = w.honest; block = w.now.block; message = w.now.message; is = w.now.is; forged = w.now.forged };
      }

  status-told : (audit_answer H limits net scripts feed).status ≡ Status.Clash → HasForged H limits net scripts events
  status-told e = by goes refl
    where
      by : (b : Bool) → goes ≡ b → HasForged H limits net scripts events
      by true honest = absurd (last-other _ _ _ _ _ ending (ap (λ (a : Answer). a.status) (sym (honest-answer honest)) ∙ e))
      by false stops = forged-shown stops

  status-shown : HasForged H limits net scripts events → (audit_answer H limits net scripts feed).status ≡ Status.Clash
  status-shown f =
      ap (λ (a : Answer). a.status) answer-is
      ∙ ap (λ b. (answer_by b told (shown_by H scripts rules start (map event_in events))).status) (forged-told f)

  pub audits-feed : AuditsFeed H limits net scripts feed
  audits-feed = record {
    honest = honest-answer;
    forged = shows-texts;
    exactly = (status-told, status-shown);
  }
