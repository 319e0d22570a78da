-- What a proving node writes is followed.
use Rattle.std.proofs.Common.{◌≡◌, ◌⊎◌, inl, inr, ℕ, suc, ◌<◌, ◌≤◌, ◌^◌, Bool, false, cond, is_some, List, [], ◌∷◌, ◌++◌, length, map, Option, Some}
use Rattle.std.proofs.Common.{None, refl, sym, ap, subst, ◌∙◌, arith}
use Rattle.std.specs.Prelude.{unwrap_or}
use Rattle.std.specs.List.{flat_map, list_any, AllByRecursion}
use Rattle.std.proofs.lemmas.Bool.{and_parts}
use Rattle.std.proofs.lemmas.List.{length-map, map-append}
use Rattle.uo_base.specs.declared.event.Limits.{Limits}
use Rattle.uo_base.specs.declared.event.Net.{Net}
use Rattle.uo_base.specs.FeedEvent.{FeedEvent}
use Rattle.uo_base.specs.FeedEvent as Feed
use Rattle.uo_digest.specs.declared.digest.Digest.{Digest}
use Rattle.block_rules.specs.declared.chain.Chain.{Chain}
use Rattle.block_rules.specs.declared.verdict.Verdict.{Verdict}
use Rattle.block_rules.specs.declared.verdict.Verdict.TheVariants.{Accepted, Refused, RolledBack, TooDeep, Stray}
use Rattle.feed_frame.specs.declared.fault.FeedFault.{FeedFault}
use Rattle.feed_frame.specs.declared.fault.FeedFault.TheVariants.{Limit}
use Rattle.feed_frame.specs.Events.{events_of}
use Rattle.feed_frame.specs.FeedText.{feed_text, HasProofFrame, HasFrames, HasEvents, HasFirstEvents}
use Rattle.feed_frame.proofs.CutFeedLaws.{feed_cut}
use Rattle.feed_frame.proofs.FeedTextLaws.{feed_read}
use Rattle.feed_run.specs.Answer.{Answer}
use Rattle.feed_run.specs.declared.status.Status.TheVariants.{InputLimit}
use Rattle.node_rules.specs.Fitting.{AreEventBytes}
use Rattle.node_rules.specs.Judging.{Rules}
use Rattle.node_rules.specs.Laws.{Serves}
use Rattle.node_rules.specs.Machine.{ChainEvent, BlockCame, RollbackCame, StrayCame, Outcome, State, start, chain_of, event_in, own_judge, full_judge}
use Rattle.node_rules.specs.Machine.{step, verdict_before, goes_on, verdicts, state_after, never_stops, is_made, proof_feed, kept_verdicts}
use Rattle.node_rules.specs.Proving.{passed_on, proved_events, IsShortMessage, CanBeWritten}
use Rattle.node_rules.proofs.Proving.{events_again, events_short}
use Rattle.compact_node.specs.Node.{NodeState, next_node}
use Rattle.compact_node.specs.Throughout.{verdicts_on, node_after, NoneIsForged}
use Rattle.compact_node.specs.Following as Fresh
use Rattle.compact_node.proofs.Following.{fresh_follows_proving}
use Rattle.compact_node.specs.State.{stored_text}
use Rattle.compact_node.proofs.Throughout.{verdicts_on-append, fresh-node}
use Rattle.report_lines.specs.declared.line.Line.TheVariants as Line
use Rattle.node_commands.specs.Answers.{answer_with}
use Rattle.node_commands.specs.Follow.{line_of, follow_answer, full_text, fresh_for, rules_of}
use Rattle.report_lines.specs.Lines.{whole_line}
use Rattle.node_commands.specs.Machine.{end_by, is_refused}
use Rattle.node_commands.specs.Proving.{proving_text, proving_verdicts, proving_chain, proving_state, answer_made, IsFollowed, IsFollowedTo}
use Rattle.node_commands.specs.Proving.{IsWritten, FollowsProving}
use Rattle.node_commands.proofs.FollowLemmas.{stores_full}

-- ---- what can be written has frames

proof_framed : (message : Option (List ℕ)) → IsShortMessage message → HasProofFrame message
proof_framed None h = tt
proof_framed (Some bytes) h = h

framed : (event : FeedEvent) → CanBeWritten event → HasFrames event
framed (Feed.BlockCame bytes message) h = (h.0, proof_framed message h.1)
framed (Feed.RollbackCame count) h = omega (arith, h)
framed Feed.StrayCame h = h

all_framed : (events : List FeedEvent) → AllByRecursion CanBeWritten events → AllByRecursion HasFrames events
all_framed [] all = tt
all_framed (event ∷ events) all = (framed event all.0, all_framed events all.1)

-- ---- nothing that was made is refused

made_is_kept : (v : Verdict) (vs : List Verdict) → list_any is_refused vs ≡ false → list_any is_refused (cond (is_made (Some v)) (v ∷ vs) vs) ≡ false
made_is_kept (Accepted height hash leaves) vs h = h
made_is_kept (Refused height hash why) vs h = h
made_is_kept (RolledBack count height hash leaves) vs h = h
made_is_kept (TooDeep asked kept) vs h = h
made_is_kept Stray vs h = h

none_refused : (vs : List Verdict) → list_any is_refused (kept_verdicts vs) ≡ false
none_refused [] = refl
none_refused (v ∷ vs) = made_is_kept v (kept_verdicts vs) (none_refused vs)

verdicts-long : (H : List ℕ → Digest) (s : NodeState) (events : List ChainEvent) → length (verdicts_on H s events) ≡ length events
verdicts-long H s [] = refl
verdicts-long H s (e ∷ es) = ap suc (verdicts-long H (next_node H s e) es)

-- ---- a stray behind

strays_said : (H : List ℕ → Digest) (s : NodeState) (strays : List FeedEvent) → (strays ≡ []) ⊎ (strays ≡ Feed.StrayCame ∷ [])
    → (verdicts_on H s (map event_in strays) ≡ []) ⊎ (verdicts_on H s (map event_in strays) ≡ Stray ∷ [])
strays_said H s strays (inl e) = inl (ap (λ es. verdicts_on H s (map event_in es)) e)
strays_said H s strays (inr e) = inr (ap (λ es. verdicts_on H s (map event_in es)) e)

strays_honest : (H : List ℕ → Digest) (scripts : List (List ℕ)) (rules : Rules) (strays : List FeedEvent)
    → (strays ≡ []) ⊎ (strays ≡ Feed.StrayCame ∷ []) → (t : State) → NoneIsForged H scripts rules t (map event_in strays)
strays_honest H scripts rules strays (inl e) t = subst (λ es. NoneIsForged H scripts rules t (map event_in es)) (sym e) refl
strays_honest H scripts rules strays (inr e) t = subst (λ es. NoneIsForged H scripts rules t (map event_in es)) (sym e) refl

honest_to : (H : List ℕ → Digest) (scripts : List (List ℕ)) (rules : Rules) (front later : List ChainEvent) (strays : List FeedEvent)
    → (strays ≡ []) ⊎ (strays ≡ Feed.StrayCame ∷ []) → (t : State)
    → NoneIsForged H scripts rules t (front ++ later) → NoneIsForged H scripts rules t (front ++ map event_in strays)
honest_to H scripts rules [] later strays one t h = strays_honest H scripts rules strays one t
honest_to H scripts rules (e ∷ es) later strays one t h =
    let o = step rules (full_judge H scripts rules) t e in
    let parts = and_parts (is_some o.verdict) (never_stops rules (full_judge H scripts rules) o.state (es ++ later)) h in
    rw parts.0 (honest_to H scripts rules es later strays one o.state parts.1)

-- what is answered where the feed goes on past the limit
abbrev answer_to_limit : ℕ → List Verdict → Answer
answer_to_limit most vs = record { status = InputLimit; report = flat_map line_of vs ++ whole_line (Line.LimitFeed most); out = [] }

-- ---- how many bytes it may read changes nothing of what a proving node does

module _ (watch : Option (List (List ℕ))) (net : Net) (limits : Limits) (most : ℕ) where
  abbrev mine : Rules
  mine = rules_of limits net

  abbrev other : Rules
  other = rules_of (record { leaves = limits.leaves; bytes = most }) net

  same_step : (s : State) (e : ChainEvent) → step other own_judge s e ≡ step mine own_judge s e
  same_step s (BlockCame None handed) = refl
  same_step s (BlockCame (Some b) handed) = refl
  same_step s (RollbackCame k) = refl
  same_step s StrayCame = refl

  same_verdicts : (events : List ChainEvent) (s : State) → verdicts other own_judge s events ≡ verdicts mine own_judge s events
  same_verdicts [] s = refl
  same_verdicts (e ∷ es) s =
      let o = step mine own_judge s e in
      ap (λ (x : Outcome). verdict_before x.verdict (verdicts other own_judge x.state es)) (same_step s e)
      ∙ ap (verdict_before o.verdict) (same_verdicts es o.state)

  same_state : (events : List ChainEvent) (s : State) → state_after other own_judge s events ≡ state_after mine own_judge s events
  same_state [] s = refl
  same_state (e ∷ es) s =
      let o = step mine own_judge s e in
      ap (λ (x : Outcome). goes_on x.verdict s (state_after other own_judge x.state es)) (same_step s e)
      ∙ ap (goes_on o.verdict s) (same_state es o.state)

  same_proved : (H : List ℕ → Digest) (events : List FeedEvent) (s : State)
      → proved_events H watch other s events ≡ proved_events H watch mine s events
  same_proved H [] s = refl
  same_proved H (event ∷ events) s =
      let o = step mine own_judge s (event_in event) in
      let made = λ (x : Outcome) (later : List FeedEvent). cond (is_made x.verdict) (passed_on H watch s.now event ∷ later) later in
      ap (λ (x : Outcome). made x (proved_events H watch other x.state events)) (same_step s (event_in event))
      ∙ ap (made o) (same_proved H events o.state)

-- ---- the run

module _ (H : List ℕ → Digest) (long : (x : List ℕ) → length (H x).0 ≡ 32) (limits : Limits) (net : Net) (few : limits.leaves < 2 ^ 40)
    (short : limits.bytes ≤ 2 ^ 48) (list : Option (List (List ℕ))) where
  abbrev scripts : List (List ℕ)
  scripts = unwrap_or list []

  abbrev node : NodeState
  node = fresh_for limits net list

  module _ (watch : Option (List (List ℕ))) (serves : Serves watch scripts) (events : List FeedEvent) (all : AllByRecursion AreEventBytes events)
      (feed : List ℕ) where
    abbrev proved : List FeedEvent
    proved = proved_events H watch (rules_of limits net) start events

    abbrev came : List ChainEvent
    came = proof_feed H watch (rules_of limits net) start (map event_in events)

    abbrev made : List Verdict
    made = kept_verdicts (proving_verdicts (rules_of limits net) events)

    read : length feed ≤ limits.bytes → feed ≡ feed_text net proved → HasEvents net limits.bytes feed proved
    read room is =
        subst (λ f. HasEvents net limits.bytes f proved) (sym is)
        (feed_read net limits.bytes proved (all_framed proved (events_short H long (rules_of limits net) few watch events all))
        (subst (λ f. length f ≤ limits.bytes) is room))

    again : map event_in proved ≡ came
    again = events_again H long (rules_of limits net) few watch events all

    follows : Fresh.SaysAsProving H watch (rules_of limits net) node (map event_in events)
    follows = fresh_follows_proving H net limits scripts few short watch serves (map event_in events)

    as_many : length proved ≡ length made
    as_many = sym (length-map proved event_in) ∙ ap length again ∙ sym (verdicts-long H node came) ∙ ap length follows.said

    abbrev answer_by : List Verdict → Chain → (stored : List ℕ) → (count : ℕ) → (refused : Bool) → Option FeedFault → Answer
    answer_by vs chain stored count refused ending = answer_with (flat_map line_of vs) [] (end_by refused count chain stored) ending

    abbrev answer_to : List ChainEvent → (count : ℕ) → Option FeedFault → Answer
    answer_to es count ending =
        let vs = verdicts_on H node es in
        let last = node_after H node es in
        answer_by vs last.newest.chain (stored_text last) count (list_any is_refused vs) ending

    abbrev then : State
    then = proving_state (rules_of limits net) events

    stored : stored_text (node_after H node came) ≡ full_text H scripts (rules_of limits net) then
    stored = stores_full H node came then (fresh-node H net limits scripts few short) follows.stands

    followed : length feed ≤ limits.bytes → feed ≡ feed_text net proved
        → IsFollowed H scripts (rules_of limits net) (rules_of limits net) events feed (follow_answer H node feed)
    unfolding follow_answer
    followed room is =
        let r = read room is in
        let f = follows in
        let ending = (events_of net limits.bytes feed).ending in
        let chain = proving_chain (rules_of limits net) events in
        let last = node_after H node came in
        let text = full_text H scripts (rules_of limits net) then in
        record {
          honest = subst (λ es. NoneIsForged H scripts (rules_of limits net) start (map event_in es)) (sym r.all)
              (subst (NoneIsForged H scripts (rules_of limits net) start) (sym again) f.honest);
          answered =
              ap (λ es. answer_to (map event_in es) (length es) ending) r.all ∙ ap (answer_to (map event_in proved) (length proved)) r.ends
              ∙ ap (λ es. answer_to es (length proved) None) again
              ∙ ap (λ vs. answer_by vs last.newest.chain (stored_text last) (length proved) (list_any is_refused vs) None) f.said
              ∙ ap (λ c. answer_by made c (stored_text last) (length proved) (list_any is_refused made) None) f.stands.newest.chain
              ∙ ap (λ w. answer_by made chain w (length proved) (list_any is_refused made) None) stored
              ∙ ap (λ n. answer_by made chain text n (list_any is_refused made) None) as_many
              ∙ ap (λ b. answer_by made chain text (length made) b None) (none_refused (proving_verdicts (rules_of limits net) events));
        }

    -- past the limit
    module _ (past : limits.bytes < length feed) (is : feed ≡ feed_text net proved) where
      read_to : HasFirstEvents net limits.bytes feed proved
      read_to =
          subst (λ f. HasFirstEvents net limits.bytes f proved) (sym is)
          (feed_cut net limits.bytes proved (all_framed proved (events_short H long (rules_of limits net) few watch events all))
          (subst (λ f. limits.bytes < length f) is past))

      followed_to : IsFollowedTo H scripts (rules_of limits net) (rules_of limits net) events feed (follow_answer H node feed)
      unfolding follow_answer
      followed_to =
          let r = read_to in
          let f = follows in
          let ending = (events_of net limits.bytes feed).ending in
          let front = map event_in r.front in
          let later = map event_in r.later in
          let strays = map event_in r.strays in
          let then = node_after H node front in
          let halves : came ≡ front ++ later = sym again ∙ ap (map event_in) r.split ∙ map-append event_in r.front r.later in
          record {
            honest = subst (λ es. NoneIsForged H scripts (rules_of limits net) start (map event_in es)) (sym r.all)
                (subst (NoneIsForged H scripts (rules_of limits net) start) (sym (map-append event_in r.front r.strays))
                (honest_to H scripts (rules_of limits net) front later r.strays r.one start
                (subst (NoneIsForged H scripts (rules_of limits net) start) halves f.honest)));
            front = verdicts_on H node front;
            later = verdicts_on H then later;
            split = sym f.said ∙ ap (verdicts_on H node) halves ∙ verdicts_on-append H node front later;
            strays = verdicts_on H then strays;
            one = strays_said H then r.strays r.one;
            answered =
                ap (λ es. answer_to (map event_in es) (length es) ending) r.all
                ∙ ap (answer_to (map event_in (r.front ++ r.strays)) (length (r.front ++ r.strays))) r.ends
                ∙ ap (λ es. answer_to es (length (r.front ++ r.strays)) (Some (Limit limits.bytes))) (map-append event_in r.front r.strays)
                ∙ ap (answer_to_limit limits.bytes) (verdicts_on-append H node front strays);
          }

  -- ---- whatever the proving node may read

  module _ (proving : Limits) (watch : Option (List (List ℕ))) (events : List FeedEvent) (feed : List ℕ)
      (w : IsWritten H scripts (rules_of limits net) proving watch events feed) where
    abbrev mixed : Limits
    mixed = record { leaves = limits.leaves; bytes = proving.bytes }

    same_limits : mixed ≡ proving
    same_limits = ap (λ n. let l : Limits = record { leaves = n; bytes = proving.bytes } in l) (sym w.leaves)

    text_is : feed ≡ feed_text net (proved_events H watch (rules_of limits net) start events)
    unfolding proving_text
    text_is = w.text ∙ ap (λ l. feed_text net (proved_events H watch (rules_of l net) start events)) (sym same_limits)
        ∙ ap (feed_text net) (same_proved watch net limits proving.bytes H events start)

    abbrev kept_by : Limits → List Verdict
    kept_by l = kept_verdicts (proving_verdicts (rules_of l net) events)

    kept_is : kept_by limits ≡ kept_by proving
    kept_is = ap kept_verdicts (sym (same_verdicts watch net limits proving.bytes (map event_in events) start)) ∙ ap kept_by same_limits

    state_is : proving_state (rules_of limits net) events ≡ proving_state (rules_of proving net) events
    state_is = sym (same_state watch net limits proving.bytes (map event_in events) start)
        ∙ ap (λ l. proving_state (rules_of l net) events) same_limits

    abbrev made_by : State → Answer
    made_by t = answer_made (kept_by proving) (chain_of t.now) (full_text H scripts (rules_of limits net) t)

    whole : length feed ≤ limits.bytes → IsFollowed H scripts (rules_of limits net) (rules_of proving net) events feed (follow_answer H node feed)
    whole room =
        let f = followed watch w.serves events w.bytes feed room text_is in
        record {
          honest = f.honest;
          answered = f.answered ∙ ap (λ vs. answer_made vs (proving_chain (rules_of limits net) events)
              (full_text H scripts (rules_of limits net) (proving_state (rules_of limits net) events))) kept_is ∙ ap made_by state_is;
        }

    cut : limits.bytes < length feed → IsFollowedTo H scripts (rules_of limits net) (rules_of proving net) events feed (follow_answer H node feed)
    cut past =
        let f = followed_to watch w.serves events w.bytes feed past text_is in
        record {
          honest = f.honest;
          front = f.front;
          later = f.later;
          split = sym kept_is ∙ f.split;
          strays = f.strays;
          one = f.one;
          answered = f.answered;
        }

  pub follows-proving : (feed : List ℕ) → FollowsProving H scripts (rules_of limits net) feed (follow_answer H node feed)
  follows-proving feed = record {
    whole = λ proving watch events w room. whole proving watch events feed w room;
    cut = λ proving watch events w past. cut proving watch events feed w past;
  }
