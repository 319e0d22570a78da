-- What `follow` says is what a node can say that reads no proof, or an auditor shows two texts with one digest.
use Rattle.std.proofs.Common.{◌≡◌, ◌≤◌, ◌<◌, ◌^◌, ◌⊎◌, inl, inr, ℕ, Bool, true, false, List, [], ◌∷◌, ◌++◌, length, map, Option, Some, None, Ok}
use Rattle.std.proofs.Common.{Err, refl, sym, ap, ap₂, subst, ◌∙◌}
use Rattle.std.specs.Prelude.{not, ◌&&◌, is_some, unwrap_or, IfSome}
use Rattle.std.specs.List.{flat_map, AllByRecursion}
use Rattle.std.proofs.lemmas.Bool.{and_parts}
use Rattle.std.proofs.lemmas.List.{map-append}
use Rattle.uo_base.specs.declared.event.Limits.{Limits}
use Rattle.uo_base.specs.declared.event.Net.{Net}
use Rattle.uo_base.specs.FeedEvent.{FeedEvent}
use Rattle.uo_base.specs.Reading.{IsBytes}
use Rattle.uo_base.proofs.Lists.{all-append}
use Rattle.uo_digest.specs.declared.digest.Digest.{Digest}
use Rattle.block_codec.specs.Block.{BlockFits}
use Rattle.leaf_cache.specs.Watched.{AreWatched}
use Rattle.feed_frame.proofs.FeedBytes.{IsMadeOfBytes, events_bytes}
use Rattle.feed_run.specs.Answer.{Answer}
use Rattle.feed_run.specs.declared.status.Status.TheVariants as Status
use Rattle.node_rules.specs.Fitting.{AreEventBytes, EventFits}
use Rattle.node_rules.specs.Judging.{Rules}
use Rattle.node_rules.specs.Machine.{ChainEvent, State, start, event_in, full_judge, full_outcome, never_stops}
use Rattle.node_rules.proofs.Fitting.{read_event_fits}
use Rattle.plain_laws.specs.Valid.{AreValid}
use Rattle.plain_laws.proofs.Validity.{are_valid}
use Rattle.state_text.specs.OfHistory.{state_of}
use Rattle.state_text.specs.Stored.{IsTextOf}
use Rattle.compact_node.specs.Node.{NodeState, IsNode, Stands, fresh_node}
use Rattle.compact_node.specs.State.{stored_state}
use Rattle.compact_node.specs.Throughout.{NoneIsForged, full_after, full_verdicts, node_after, verdicts_on}
use Rattle.compact_node.proofs.Storing.{one_node_stands, standing_is_written}
use Rattle.compact_node.proofs.Throughout.{compact_is_full_throughout, fresh-node, fresh-stands, node_throughout, told_after, verdicts_on-append}
use Rattle.audit_replay.specs.Laws.{shown_by}
use Rattle.audit_replay.proofs.Showing.{full_shows_forged}
use Rattle.node_commands.specs.Auditor.{answer_unless, audit_answer}
use Rattle.node_commands.specs.Follow.{line_of, events_for, rules_of}
use Rattle.node_commands.specs.Forging.{HasForged}
use Rattle.node_commands.specs.Plainly.{IsFollowedValid, AuditorShows, IsResumedValid}
use Rattle.node_commands.specs.Starting.{Start, IsNodeOf, IsStart}
use Rattle.node_commands.proofs.ForgingLemmas.{HasForgedFrom, first-forged, one_of, block_bytes, all_fit, message_fits, audits-feed}
use Rattle.node_commands.proofs.StartLemmas.{back_at}

-- ---- from the start

clash_status : (b : Bool) (whole : Answer) (lines clash : List ℕ) → b ≡ false → (answer_unless (not b) whole lines clash).status ≡ Status.Clash
clash_status b whole lines clash e = ap (λ x. (answer_unless (not x) whole lines clash).status) e

module _ (H : List ℕ → Digest) (long : (x : List ℕ) → length (H x).0 ≡ 32) (limits : Limits) (few : limits.leaves < 2 ^ 40)
    (short : limits.bytes ≤ 2 ^ 48) (net : Net) (list : Option (List (List ℕ))) (feed : List ℕ) (bytes : IsBytes feed) where
  abbrev rules : Rules
  rules = rules_of limits net

  abbrev scripts : List (List ℕ)
  scripts = unwrap_or list []

  abbrev events : List FeedEvent
  events = (events_for rules feed).events

  abbrev IsValidOr : Type 0
  IsValidOr = IsFollowedValid H limits net list feed

  forged : never_stops rules (full_judge H scripts rules) start (map event_in events) ≡ false → HasForged H limits net scripts events
  unfolding audit_answer
  forged stops = (audits-feed H long limits net scripts few feed).exactly.0 (clash_status _ _ _ _ stops)

  by_forged : (b : Bool) → never_stops rules (full_judge H scripts rules) start (map event_in events) ≡ b → IsValidOr
  by_forged true honest =
      let node = fresh_node net limits scripts in
      let a = compact_is_full_throughout H start node (map event_in events) (fresh-node H net limits scripts few short)
      (fresh-stands H net limits scripts) honest in
      λ is_bytes. inl (subst (AreValid rules start (map event_in events)) (sym a.said) (are_valid H scripts rules start (map event_in events) honest))
  by_forged false stops =
      let f = forged stops in
      let s = (audits-feed H long limits net scripts few feed).forged f.front f.later f.event bytes f.split f.is in
      λ is_bytes. inr (record {
        clash = s.clash;
        is = record { differ = s.is.differ; first_is = s.is.first_is; second_is = s.is.second_is };
        lines = flat_map line_of (full_verdicts H scripts rules start (map event_in f.front));
        events = length f.front;
        printed = s.answered;
      })

  valid-over : IsValidOr
  valid-over = by_forged (never_stops rules (full_judge H scripts rules) start (map event_in events)) refl

pub followed-valid : (H : List ℕ → Digest) → ((x : List ℕ) → length (H x).0 ≡ 32) → (limits : Limits) → limits.leaves < 2 ^ 40
    → limits.bytes ≤ 2 ^ 48 → (net : Net) (list : Option (List (List ℕ))) (feed : List ℕ) → IsFollowedValid H limits net list feed
followed-valid H long limits few short net list feed = λ bytes. valid-over H long limits few short net list feed bytes bytes

-- ---- an auditor over some events

module _ (H : List ℕ → Digest) (scripts : List (List ℕ)) (rules : Rules) where
  -- where none of some events is forged, none of the first ones is
  honest-front : (t : State) (es fs : List ChainEvent) → NoneIsForged H scripts rules t (es ++ fs) → NoneIsForged H scripts rules t es
  honest-front t [] fs h = refl
  honest-front t (e ∷ es) fs h =
      let o = full_outcome H scripts rules t e in
      let parts = and_parts (is_some o.verdict) (never_stops rules (full_judge H scripts rules) o.state (es ++ fs)) h in
      ap₂ (λ a b. a && b) parts.0 (honest-front o.state es fs parts.1)

module _ (H : List ℕ → Digest) (long : (x : List ℕ) → length (H x).0 ≡ 32) (limits : Limits) (few : limits.leaves < 2 ^ 40) (net : Net)
    (scripts : List (List ℕ)) (events : List FeedEvent) (made : AllByRecursion IsMadeOfBytes events) where
  abbrev told_rules : Rules
  told_rules = rules_of limits net

  shows-first : HasForgedFrom H scripts told_rules start events → AuditorShows H limits net scripts (map event_in events)
  shows-first f =
      let m = one_of IsMadeOfBytes f.front f.event f.later (subst (AllByRecursion IsMadeOfBytes) f.split made) in
      let fits : BlockFits f.now.block = subst EventFits f.now.is (read_event_fits f.event (block_bytes f.event m.1)) in
      let s = full_shows_forged H long net limits scripts few (map event_in f.front) (map event_in f.later) f.now.block f.now.message
      (all_fit f.front m.0) fits (message_fits f.event f.now.block f.now.message m.1 f.now.is) f.honest f.now.forged in
      let split = ap (map event_in) f.split ∙ map-append event_in f.front (f.event ∷ f.later)
      ∙ ap (λ x. map event_in f.front ++ x ∷ map event_in f.later) f.now.is in
      record {
        clash = s.clash;
        is = record { differ = s.is.differ; first_is = s.is.first_is; second_is = s.is.second_is };
        shown = ap (shown_by H scripts told_rules start) split ∙ s.shows;
      }

  auditor-shows : never_stops told_rules (full_judge H scripts told_rules) start (map event_in events) ≡ false
      → AuditorShows H limits net scripts (map event_in events)
  auditor-shows stops = shows-first (first-forged H scripts told_rules events start stops)

-- ---- from a prior state

event_bytes : (events : List FeedEvent) → AllByRecursion IsMadeOfBytes events → AllByRecursion AreEventBytes events
event_bytes [] made = tt
event_bytes (event ∷ events) made = (block_bytes event made.0, event_bytes events made.1)

module _ (H : List ℕ → Digest) (long : (x : List ℕ) → length (H x).0 ≡ 32) (limits : Limits) (few : limits.leaves < 2 ^ 40)
    (short : limits.bytes ≤ 2 ^ 48) (net : Net) (scripts : List (List ℕ)) (first prior feed : List ℕ) (watched : AreWatched scripts)
    (first_bytes : IsBytes first) (bytes : IsBytes feed) where
  abbrev by : Rules
  by = rules_of limits net

  abbrev new : NodeState
  new = fresh_node net limits scripts

  abbrev earlier : List FeedEvent
  earlier = (events_for by first).events

  abbrev later : List FeedEvent
  later = (events_for by feed).events

  abbrev before : List ChainEvent
  before = map event_in earlier

  abbrev came : List ChainEvent
  came = map event_in later

  abbrev both : List ChainEvent
  both = before ++ came

  abbrev reached : State
  reached = full_after H scripts by start before

  abbrev then : NodeState
  then = node_after H new before

  made : AllByRecursion IsMadeOfBytes earlier
  made = events_bytes net limits.bytes first first_bytes

  is_new : IsNode new
  is_new = fresh-node H net limits scripts few short

  abbrev IsOr : NodeState → Type 0
  IsOr node = AreValid by start both (verdicts_on H new before ++ verdicts_on H node came) ⊎ AuditorShows H limits net scripts both

  module _ (honest : NoneIsForged H scripts by start both) (text : IsTextOf (stored_state then) prior) (node : NodeState)
      (is : IsNodeOf H limits prior node) where
    stands : Stands H reached then
    stands =
        (compact_is_full_throughout H start new before is_new (fresh-stands H net limits scripts)
        (honest-front H scripts by start before came honest)).stands

    kept : stored_state then ≡ state_of H net scripts reached
    kept =
        let told = told_after H new before in
        standing_is_written H reached then (node_throughout H new before is_new) stands
        ∙ ap₂ (λ (r : Rules) w. state_of H r.net w reached) told.0 told.1

    -- the node that is read is the one that stored it
    same : node ≡ then
    same =
        let told = told_after H new before in
        let b = back_at H long limits few net scripts watched earlier (event_bytes earlier made) prior
        (subst (λ s. IsTextOf s prior) kept text) node is in
        one_node_stands H reached node then b.is (node_throughout H new before is_new) (b.rules_are ∙ sym told.0) (b.scripts_are ∙ sym told.1)
        b.stands stands

    said : verdicts_on H new before ++ verdicts_on H node came ≡ full_verdicts H scripts by start both
    said =
        ap (λ s. verdicts_on H new before ++ verdicts_on H s came) same ∙ sym (verdicts_on-append H new before came)
        ∙ (compact_is_full_throughout H start new both is_new (fresh-stands H net limits scripts) honest).said

    valid-both : IsOr node
    valid-both = inl (subst (AreValid by start both) (sym said) (are_valid H scripts by start both honest))

  shown-both : never_stops by (full_judge H scripts by) start both ≡ false → AuditorShows H limits net scripts both
  shown-both stops =
      let all = map-append event_in earlier later in
      let made_later = events_bytes net limits.bytes feed bytes in
      subst (AuditorShows H limits net scripts) all
      (auditor-shows H long limits few net scripts (earlier ++ later) (all-append IsMadeOfBytes earlier later made made_later)
      (ap (never_stops by (full_judge H scripts by) start) all ∙ stops))

  by_start : (text : IsTextOf (stored_state then) prior) (b : Bool) → never_stops by (full_judge H scripts by) start both ≡ b → (node : NodeState)
      → IsNodeOf H limits prior node → IsOr node
  by_start text true honest node is = valid-both honest text node is
  by_start text false stops node is = inr (shown-both stops)

  resumes : (text : IsTextOf (stored_state then) prior) (node : NodeState) → IsNodeOf H limits prior node → IsOr node
  resumes text node is = by_start text (never_stops by (full_judge H scripts by) start both) refl node is

pub resumed-valid : (H : List ℕ → Digest) → ((x : List ℕ) → length (H x).0 ≡ 32) → (limits : Limits) → limits.leaves < 2 ^ 40
    → limits.bytes ≤ 2 ^ 48 → (prior feed : List ℕ) (begun : Option Start) → IfSome begun (IsStart H limits prior)
    → IsResumedValid H limits prior feed begun
resumed-valid H long limits few short prior feed None begins = λ net scripts first watched a b text. tt
resumed-valid H long limits few short prior feed (Some (Ok node)) begins =
    λ net scripts first watched a b text. resumes H long limits few short net scripts first prior feed watched a b text node begins
resumed-valid H long limits few short prior feed (Some (Err bad)) begins = λ net scripts first watched a b text. tt
