-- What `follow` writes of a feed is what its verdicts say, and these are those of a node that holds every output as long as no proof is forged.
use Rattle.std.proofs.Common.{◌≡◌, ℕ, suc, ◌+◌, ◌<◌, ◌≤◌, ◌^◌, Bool, true, false, ◌||◌, List, [], ◌∷◌, ◌++◌, length, map, Option, refl, ap, subst}
use Rattle.std.proofs.Common.{◌∙◌, arith}
use Rattle.std.specs.Prelude.{unwrap_or}
use Rattle.std.specs.List.{flat_map, list_any}
use Rattle.std.proofs.lemmas.List.{append_assoc, map-append}
use Rattle.std.proofs.lemmas.Grind.{flat_map-append}
use Rattle.uo_base.specs.declared.event.Limits.{Limits}
use Rattle.uo_base.specs.declared.event.Net.{Net}
use Rattle.uo_base.specs.FeedEvent.{FeedEvent}
use Rattle.uo_digest.specs.declared.digest.Digest.{Digest}
use Rattle.block_rules.specs.declared.verdict.Verdict.{Verdict}
use Rattle.feed_frame.specs.Events.{events_of}
use Rattle.feed_run.specs.declared.status.Status.{Status}
use Rattle.feed_run.specs.Machine.{left_by, said_by, sent_by}
use Rattle.node_rules.specs.Machine.{ChainEvent, State, start, chain_of, event_in}
use Rattle.compact_node.specs.Node.{NodeState, IsNode, Stands}
use Rattle.compact_node.specs.Throughout.{verdicts_on, node_after, full_verdicts, full_after, NoneIsForged}
use Rattle.compact_node.specs.State.{stored_text}
use Rattle.compact_node.proofs.Storing.{standing_is_written}
use Rattle.compact_node.proofs.Throughout.{compact_is_full_throughout, verdicts_on-append, told_after, node_throughout, fresh-stands, fresh-node}
use Rattle.state_text.specs.Stored.{state_text}
use Rattle.node_commands.specs.Meaning.{AnyEvents}
use Rattle.node_commands.specs.Answers.{bad_end, last_of, answer_with, served_feed}
use Rattle.node_commands.specs.Follow.{line_of, follow_lines, answer_told, events_for, chain_events, follow_answer, full_text, full_answer, fresh_for}
use Rattle.node_commands.specs.Follow.{IsAsOfFull, PrintsAsFull}
use Rattle.node_commands.specs.Runs.{Serves}
use Rattle.node_commands.proofs.ServeLemmas.{Serves-same}
use Rattle.node_commands.specs.Machine.{Following, follower_of, event_line, told_of, next_follower, end_by, stored_end, follow_machine, is_refused}

-- ---- what is stored

-- a node that some events led to, and that stands for a state, stores what a node stores that holds every output
pub stores_full : (H : List ℕ → Digest) (node : NodeState) (es : List ChainEvent) (t : State) → IsNode node
    → Stands H t (node_after H node es)
    → stored_text (node_after H node es) ≡ full_text H node.scripts node.rules t
stores_full H node es t is stands =
    let told = told_after H node es in
    ap state_text (standing_is_written H t (node_after H node es) (node_throughout H node es is) stands)
    ∙ ap (λ w. full_text H w (node_after H node es).rules t) told.1 ∙ ap (λ r. full_text H node.scripts r t) told.0

-- ---- the machine of `follow`, by its verdicts

pub or_none : (b : Bool) → b ≡ (b || false)
or_none true = refl
or_none false = refl

pub or_again : (a b c : Bool) → ((a || b) || c) ≡ (a || (b || c))
or_again true b c = refl
or_again false b c = refl

module _ (H : List ℕ → Digest) where
  abbrev verdicts : Following → List FeedEvent → List Verdict
  verdicts f events = verdicts_on H f.node (map event_in events)

  abbrev with : Following → List FeedEvent → (count : ℕ) → (refused : Bool) → Following
  with f events count refused = record { node = node_after H f.node (map event_in events); events = count; refused = refused }

  left-told : (events : List FeedEvent) (f : Following) → left_by (follow_machine H) f events
      ≡ with f events (f.events + length events) (f.refused || list_any is_refused (verdicts f events))
  unfolding next_follower told_of
  left-told [] f =
      ap (λ k. with f [] k f.refused) (let z : f.events ≡ f.events + 0 = omega arith in z) ∙ ap (with f [] (f.events + 0)) (or_none f.refused)
  left-told (event ∷ events) f =
      let g = next_follower H f event in
      left-told events g ∙ ap (λ k. with g events k (g.refused || list_any is_refused (verdicts g events)))
      (let z : (f.events + 1) + length events ≡ f.events + suc (length events) = omega arith in z)
      ∙ ap (with g events (f.events + suc (length events)))
      (or_again f.refused (is_refused (told_of H f event)) (list_any is_refused (verdicts g events)))

  said-told : (events : List FeedEvent) (f : Following) → said_by (follow_machine H) f events ≡ flat_map line_of (verdicts f events)
  unfolding event_line told_of next_follower
  said-told [] f = refl
  said-told (event ∷ events) f = ap (λ l. event_line H f event ++ l) (said-told events (next_follower H f event))

  sent-none : (events : List FeedEvent) (f : Following) → sent_by (follow_machine H) f events ≡ []
  sent-none [] f = refl
  sent-none (event ∷ events) f = sent-none events (next_follower H f event)

  served-node : (node : NodeState) (feed : List ℕ) → served_feed (follow_machine H) (follower_of node) node.rules.net node.rules.limits.bytes feed
      ≡ follow_answer H node feed
  unfolding served_feed follow_answer
  served-node node feed =
      let m = follow_machine H in
      let f = follower_of node in
      let events = events_of node.rules.net node.rules.limits.bytes feed in
      let es = events.events in
      let said = flat_map line_of (verdicts f es) in
      let last = node_after H node (map event_in es) in
      ap (λ l. answer_with l (sent_by m f es) (m.at_end (left_by m f es)) events.ending) (said-told es f)
      ∙ ap (λ w. answer_with said w (m.at_end (left_by m f es)) events.ending) (sent-none es f)
      ∙ ap (λ s. answer_with said [] (m.at_end s) events.ending) (left-told es f)
      ∙ ap (λ k. answer_with said [] (stored_end (list_any is_refused (verdicts f es)) k last) events.ending) (let z : 0 + length es ≡ length es =
      omega arith in z)

  pub served-follow : (node : NodeState) (f : Following) (net : Net) (bytes : ℕ) → f ≡ follower_of node → net ≡ node.rules.net
      → bytes ≡ node.rules.limits.bytes
      → (feed : List ℕ) → served_feed (follow_machine H) f net bytes feed ≡ follow_answer H node feed
  served-follow node f net bytes e n b feed =
      ap (λ s. served_feed (follow_machine H) s net bytes feed) e ∙ ap (λ k. served_feed (follow_machine H) (follower_of node) k bytes feed) n
      ∙ ap (λ k. served_feed (follow_machine H) (follower_of node) node.rules.net k feed) b ∙ served-node node feed

  -- what a call over the machine gave is what it gave of the node
  pub follow-serves : (node : NodeState) (f : Following) (net : Net) (bytes : ℕ) → f ≡ follower_of node → net ≡ node.rules.net
      → bytes ≡ node.rules.limits.bytes
      → {feed feed' report report' out out' : Option (List ℕ)} {wants : List FeedEvent → Type 0} {untouched : Type 0} (stopped : Bool)
      (status : Status)
      → Serves wants (said_by (follow_machine H) f) (sent_by (follow_machine H) f) (served_feed (follow_machine H) f net bytes) net bytes feed feed'
      report report' out out' untouched stopped status
      → Serves AnyEvents (follow_lines H node) (λ events. []) (follow_answer H node) node.rules.net bytes feed feed' report report' out out'
      untouched stopped status
  follow-serves node f net bytes e n b {feed} {feed'} {report} {report'} {out} {out'} {wants} {untouched} stopped status s =
      let m = follow_machine H in
      Serves-same (λ events w. tt) (λ events. said-told events f ∙ ap (λ g. flat_map line_of (verdicts g events)) e) (λ events. sent-none events f)
      (λ text. served-follow node f node.rules.net bytes e refl b text)
      stopped status (subst (λ k. Serves wants (said_by m f) (sent_by m f) (served_feed m f k bytes) k bytes feed feed' report report' out out'
      untouched stopped status) n s)

  -- ---- beside the node that holds every output

  module _ (t : State) (node : NodeState) (is : IsNode node) (stands : Stands H t node) (feed : List ℕ) where
    whole : NoneIsForged H node.scripts node.rules t (chain_events (events_for node.rules feed))
        → follow_answer H node feed ≡ full_answer H node.scripts node.rules t feed
    unfolding follow_answer full_answer
    whole honest =
        let events = events_for node.rules feed in
        let es = chain_events events in
        let a = compact_is_full_throughout H t node es is stands honest in
        let last = node_after H node es in
        let full = full_verdicts H node.scripts node.rules t es in
        ap (λ v. answer_told v last.newest.chain (stored_text last) events) a.said
        ∙ ap (λ c. answer_told full c (stored_text last) events) a.stands.newest.chain
        ∙ ap (λ w. answer_told full (chain_of (full_after H node.scripts node.rules t es).now) w events)
        (stores_full H node es (full_after H node.scripts node.rules t es) is a.stands)

    begins : (front later : List FeedEvent) → (events_for node.rules feed).events ≡ front ++ later
        → NoneIsForged H node.scripts node.rules t (map event_in front)
        → (rest : List ℕ) × ((follow_answer H node feed).report
        ≡ flat_map line_of (full_verdicts H node.scripts node.rules t (map event_in front)) ++ rest)
    unfolding follow_answer
    begins front later split honest =
        let events = events_for node.rules feed in
        let a = compact_is_full_throughout H t node (map event_in front) is stands honest in
        let others = verdicts_on H (node_after H node (map event_in front)) (map event_in later) in
        let said = verdicts_on H node (chain_events events) in
        let then = node_after H node (chain_events events) in
        let last = last_of (end_by (list_any is_refused said) (length events.events) then.newest.chain (stored_text then)) (bad_end events.ending) in
        let first = full_verdicts H node.scripts node.rules t (map event_in front) in (
          flat_map line_of others ++ last.report,
          ap (λ w. flat_map line_of (verdicts_on H node (map event_in w)) ++ last.report) split
              ∙ ap (λ w. flat_map line_of (verdicts_on H node w) ++ last.report) (map-append event_in front later)
              ∙ ap (λ w. flat_map line_of w ++ last.report) (verdicts_on-append H node (map event_in front) (map event_in later)
              ∙ ap (λ w. w ++ others) a.said)
              ∙ ap (λ w. w ++ last.report) (flat_map-append line_of first others)
              ∙ append_assoc (flat_map line_of first) (flat_map line_of others) last.report,
        )

    pub as-of-full : IsAsOfFull H node.scripts node.rules t feed (follow_answer H node feed)
    as-of-full = record { whole = whole; front = begins }

  -- from the start
  pub prints-as-full : (limits : Limits) (net : Net) → limits.leaves < 2 ^ 40 → limits.bytes ≤ 2 ^ 48
      → (list : Option (List (List ℕ))) (feed : List ℕ) → PrintsAsFull H limits net list feed
  prints-as-full limits net few short list feed =
      let scripts = unwrap_or list [] in
      as-of-full start (fresh_for limits net list) (fresh-node H net limits scripts few short) (fresh-stands H net limits scripts)
      feed
