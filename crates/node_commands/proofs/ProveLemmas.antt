-- What `prove` writes of a feed is what a bridge says and passes on, and that is what the proving node says and passes on.
use Rattle.std.proofs.Common.{◌≡◌, ℕ, suc, ◌+◌, ◌<◌, ◌^◌, Bool, true, false, cond, ◌||◌, List, [], ◌∷◌, ◌++◌, length, map, Option, Some, Result, Ok}
use Rattle.std.proofs.Common.{Err, OnOk, refl, sym, ap, subst, ◌∙◌, arith}
use Rattle.std.specs.List.{flat_map, list_any, AllByRecursion}
use Rattle.std.proofs.lemmas.List.{map-append}
use Rattle.uo_base.specs.declared.event.Limits.{Limits}
use Rattle.uo_base.specs.declared.event.Net.{Net}
use Rattle.uo_base.specs.FeedEvent.{FeedEvent, BlockCame, RollbackCame, StrayCame}
use Rattle.uo_digest.specs.declared.digest.Digest.{Digest}
use Rattle.block_rules.specs.declared.verdict.Verdict.{Verdict}
use Rattle.feed_frame.specs.Events.{events_of}
use Rattle.feed_frame.specs.FeedText.{event_text, feed_text}
use Rattle.feed_run.specs.declared.status.Status.{Status}
use Rattle.feed_run.specs.Machine.{left_by, said_by, sent_by}
use Rattle.node_rules.specs.Fitting.{AreEventBytes}
use Rattle.node_rules.specs.Judging.{Rules}
use Rattle.node_rules.specs.Machine.{ChainEvent, event_in, is_made}
use Rattle.node_rules.specs.Proving.{CanBeWritten}
use Rattle.node_rules.proofs.Proving.{events_short}
use Rattle.bridge_prover.specs.Bridge.{BridgeState, fresh_bridge, verdict_on, next_bridge, message_on}
use Rattle.bridge_prover.specs.Throughout.{verdicts_on, bridge_after, passed_by, passed_by_bridge}
use Rattle.bridge_prover.proofs.Throughout.{fresh_proves_throughout}
use Rattle.node_commands.specs.Meaning.{AnyEvents}
use Rattle.node_commands.specs.Answers.{answer_with, served_feed}
use Rattle.node_commands.specs.Runs.{Serves}
use Rattle.node_commands.specs.Follow.{line_of, rules_of}
use Rattle.node_commands.specs.Machine.{follow_end, is_refused}
use Rattle.node_commands.specs.Proving.{proving_text, proving_verdicts}
use Rattle.node_commands.specs.Prover.{ProverState, fresh_prover, proved_of, next_prover, proved_line, beside, proved_frames, prove_machine}
use Rattle.node_commands.specs.Prover.{prove_answer, IsReached}
use Rattle.node_commands.proofs.FollowLemmas.{or_none, or_again}
use Rattle.node_commands.proofs.ServeLemmas.{Serves-same}

module _ (H : List ℕ → Digest) where
  abbrev verdicts : ProverState → List FeedEvent → List Verdict
  verdicts p events = verdicts_on H p.bridge (map event_in events)

  abbrev with : ProverState → List FeedEvent → (count : ℕ) → (refused : Bool) → ProverState
  with p events count refused = record {
    net = p.net;
    bridge = bridge_after H p.bridge (map event_in events);
    events = count;
    refused =
        refused;
  }

  left-told : (events : List FeedEvent) (p : ProverState) → left_by (prove_machine H) p events
      ≡ with p events (p.events + length events) (p.refused || list_any is_refused (verdicts p events))
  unfolding next_prover proved_of
  left-told [] p =
      ap (λ k. with p [] k p.refused) (let z : p.events ≡ p.events + 0 = omega arith in z) ∙ ap (with p [] (p.events + 0)) (or_none p.refused)
  left-told (event ∷ events) p =
      let q = next_prover H p event in
      left-told events q ∙ ap (λ k. with q events k (q.refused || list_any is_refused (verdicts q events)))
      (let z : (p.events + 1) + length events ≡ p.events + suc (length events) = omega arith in z)
      ∙ ap (with q events (p.events + suc (length events)))
      (or_again p.refused (is_refused (proved_of p event)) (list_any is_refused (verdicts q events)))

  said-told : (events : List FeedEvent) (p : ProverState) → said_by (prove_machine H) p events ≡ flat_map line_of (verdicts p events)
  unfolding proved_line proved_of next_prover
  said-told [] p = refl
  said-told (event ∷ events) p = ap (λ l. proved_line p event ++ l) (said-told events (next_prover H p event))

  passed-beside : (s : BridgeState) (event : FeedEvent) → passed_by H s event ≡ beside (message_on H s (event_in event)) event
  passed-beside s (BlockCame block handed) = refl
  passed-beside s (RollbackCame count) = refl
  passed-beside s StrayCame = refl

  -- the frames of one event, before those of later ones
  frames-if : (made : Bool) (net : Net) (written passed : FeedEvent) (later : List FeedEvent) → event_text net written ≡ event_text net passed
      → cond made (event_text net written) [] ++ feed_text net later ≡ feed_text net (cond made (passed ∷ later) later)
  frames-if true net written passed later e = ap (λ w. w ++ feed_text net later) e
  frames-if false net written passed later e = refl

  sent-told : (events : List FeedEvent) (p : ProverState)
      → sent_by (prove_machine H) p events ≡ feed_text p.net (passed_by_bridge H p.bridge events)
  unfolding next_prover proved_frames proved_of
  sent-told [] p = refl
  sent-told (event ∷ events) p =
      ap (λ w. proved_frames H p event ++ w) (sent-told events (next_prover H p event))
      ∙ frames-if (is_made (Some (verdict_on p.bridge (event_in event)))) p.net (beside (message_on H p.bridge (event_in event)) event)
      (passed_by H p.bridge event)
      (passed_by_bridge H (next_bridge H p.bridge (event_in event)) events)
      (ap (event_text p.net) (sym (passed-beside p.bridge event)))

  module _ (limits : Limits) (net : Net) (watch : Option (List (List ℕ))) (few : limits.leaves < 2 ^ 40) where
    served-fresh : (feed : List ℕ) → served_feed (prove_machine H) (fresh_prover net limits watch) net limits.bytes feed
        ≡ prove_answer H limits net watch feed
    unfolding served_feed prove_answer proving_text
    served-fresh feed =
        let m = prove_machine H in
        let p = fresh_prover net limits watch in
        let rules = rules_of limits net in
        let events = events_of net limits.bytes feed in
        let es = events.events in
        let t = fresh_proves_throughout H net limits watch few es in
        let bridge = bridge_after H p.bridge (map event_in es) in
        let told = proving_verdicts rules es in
        let text = proving_text H watch rules es in
        let said = said-told es p ∙ ap (flat_map line_of) t.said in
        let sent = sent-told es p ∙ ap (feed_text net) t.passed in
        let count : 0 + length es ≡ length es = omega arith in
        ap (λ l. answer_with l (sent_by m p es) (m.at_end (left_by m p es)) events.ending) said
        ∙ ap (λ w. answer_with (flat_map line_of told) w (m.at_end (left_by m p es)) events.ending) sent
        ∙ ap (λ s. answer_with (flat_map line_of told) text (m.at_end s) events.ending) (left-told es p)
        ∙ ap (λ k. answer_with (flat_map line_of told) text (follow_end (list_any is_refused (verdicts p es)) k bridge.chain) events.ending) count
        ∙ ap (λ v. answer_with (flat_map line_of told) text (follow_end (list_any is_refused v) (length es) bridge.chain) events.ending) t.said
        ∙ ap (λ c. answer_with (flat_map line_of told) text (follow_end (list_any is_refused told) (length es) c) events.ending) t.stands.chain

    said-by : (events : List FeedEvent) → said_by (prove_machine H) (fresh_prover net limits watch) events
        ≡ flat_map line_of (proving_verdicts (rules_of limits net) events)
    said-by events =
        let t = fresh_proves_throughout H net limits watch few events in
        said-told events (fresh_prover net limits watch) ∙ ap (flat_map line_of) t.said

    sent-by : (events : List FeedEvent) → sent_by (prove_machine H) (fresh_prover net limits watch) events
        ≡ proving_text H watch (rules_of limits net) events
    unfolding proving_text
    sent-by events =
        let t = fresh_proves_throughout H net limits watch few events in
        sent-told events (fresh_prover net limits watch) ∙ ap (feed_text net) t.passed

    -- what a call over the machine gave is what it gave of the proving node
    pub prove-serves : (p : ProverState) → p ≡ fresh_prover net limits watch
        → {feed feed' report report' out out' : Option (List ℕ)} {wants : List FeedEvent → Type 0} {untouched : Type 0} (stopped : Bool)
        (status : Status)
        → Serves wants (said_by (prove_machine H) p) (sent_by (prove_machine H) p) (served_feed (prove_machine H) p net limits.bytes) net
        limits.bytes feed feed' report report' out out' untouched stopped status
        → Serves AnyEvents (λ events. flat_map line_of (proving_verdicts (rules_of limits net) events))
        (λ events. proving_text H watch (rules_of limits net) events) (prove_answer H limits net watch) net limits.bytes
        feed feed' report report' out out' untouched stopped status
    prove-serves p e {feed} {feed'} {report} {report'} {out} {out'} {wants} {untouched} stopped status s =
        let m = prove_machine H in
        Serves-same (λ events w. tt) said-by sent-by served-fresh stopped status
        (subst (λ q. Serves wants (said_by m q) (sent_by m q) (served_feed m q net limits.bytes) net limits.bytes feed feed' report report' out out'
        untouched stopped status) e s)

  -- ---- what is passed on is no longer than its frames may be

  after-more : (s : BridgeState) (es : List ChainEvent) (e : ChainEvent)
      → bridge_after H s (es ++ e ∷ []) ≡ next_bridge H (bridge_after H s es) e
  after-more s [] e = refl
  after-more s (f ∷ es) e = after-more (next_bridge H s f) es e

  all-more : (P : FeedEvent → Type 0) (es : List FeedEvent) (e : FeedEvent) → AllByRecursion P es → P e → AllByRecursion P (es ++ e ∷ [])
  all-more P [] e all p = (p, tt)
  all-more P (f ∷ es) e all p = (all.0, all-more P es e all.1 p)

  pub reached-fresh : (net : Net) (limits : Limits) (watch : Option (List (List ℕ))) → limits.leaves < 2 ^ 40
      → IsReached H (fresh_prover net limits watch)
  reached-fresh net limits watch few = record { limits = limits; few = few; watch = watch; events = []; bytes = tt; is = refl }

  pub reached-next : (p : ProverState) (event : FeedEvent) → AreEventBytes event → IsReached H p → IsReached H (next_prover H p event)
  unfolding next_prover
  reached-next p event bytes r = record {
    limits = r.limits;
    few = r.few;
    watch = r.watch;
    events = r.events ++ event ∷ [];
    bytes = all-more AreEventBytes r.events event r.bytes bytes;
    is =
        ap (λ s. next_bridge H s (event_in event)) r.is
        ∙ sym (ap (bridge_after H (fresh_bridge p.net r.limits r.watch)) (map-append event_in r.events (event ∷ []))
        ∙ after-more (fresh_bridge p.net r.limits r.watch) (map event_in r.events) (event_in event));
  }

  -- the last of them can be written
  last-passed : (s : BridgeState) (es : List FeedEvent) (event : FeedEvent)
      → AllByRecursion CanBeWritten (passed_by_bridge H s (es ++ event ∷ []))
      → is_made (Some (verdict_on (bridge_after H s (map event_in es)) (event_in event))) ≡ true
      → CanBeWritten (passed_by H (bridge_after H s (map event_in es)) event)
  last-passed s [] event all made = (rw made at all).0
  last-passed s (f ∷ es) event all made =
      last-passed (next_bridge H s (event_in f)) es event
      (behind (is_made (Some (verdict_on s (event_in f)))) (passed_by H s f)
      (passed_by_bridge H (next_bridge H s (event_in f)) (es ++ event ∷ [])) all) made where
        behind : (b : Bool) (first : FeedEvent) (later : List FeedEvent) → AllByRecursion CanBeWritten (cond b (first ∷ later) later)
            → AllByRecursion CanBeWritten later
        behind true first later h = h.1
        behind false first later h = h

  pub passed-short : ((x : List ℕ) → length (H x).0 ≡ 32) → (p : ProverState) (event : FeedEvent) → AreEventBytes event → IsReached H p
      → is_made (Some (proved_of p event)) ≡ true
      → CanBeWritten (beside (message_on H p.bridge (event_in event)) event)
  unfolding proved_of
  passed-short long p event bytes r made =
      let rules : Rules = record { net = p.net; limits = r.limits } in
      let es = r.events ++ event ∷ [] in
      let t = fresh_proves_throughout H p.net r.limits r.watch r.few es in
      let short = events_short H long rules r.few r.watch es (all-more AreEventBytes r.events event r.bytes bytes) in
      let passed = subst (AllByRecursion CanBeWritten) (sym t.passed) short in
      let there = last-passed (fresh_bridge p.net r.limits r.watch) r.events event passed
      (ap (λ s. is_made (Some (verdict_on s (event_in event)))) (sym r.is) ∙ made) in
      subst CanBeWritten (ap (λ s. passed_by H s event) (sym r.is) ∙ passed-beside p.bridge event) there

-- ---- what a call gives where it succeeds

pub OnOk-map : {T E P Q : Type 0} (r : Result T E) → (P → Q) → OnOk r P → OnOk r Q
OnOk-map (Ok x) f p = f p
OnOk-map (Err e) f p = tt
