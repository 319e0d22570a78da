-- A run that is stopped and goes on is one run.
use Rattle.std.proofs.Common.{◌≡◌, ℕ, ◌<◌, ◌^◌, Bool, true, List, [], ◌∷◌, ◌++◌, length, map, Option, Some, None, is_some, option_map, refl, sym, ap}
use Rattle.std.proofs.Common.{ap₂, subst, ◌∙◌, ◌⊎◌, inl, inr}
use Rattle.std.specs.List.{flat_map, AllByRecursion}
use Rattle.std.proofs.lemmas.Bool.{and_parts, false≢true}
use Rattle.std.proofs.lemmas.List.{map-append}
use Rattle.std.proofs.lemmas.Grind.{flat_map-append}
use Rattle.uo_base.specs.declared.event.Limits.{Limits}
use Rattle.uo_base.specs.declared.event.Net.{Net}
use Rattle.uo_base.specs.FeedEvent.{FeedEvent}
use Rattle.uo_digest.specs.declared.digest.Digest.{Digest}
use Rattle.forest_place.specs.declared.naming.Naming.TheVariants.{Position, FixedPosition}
use Rattle.leaf_cache.specs.Watched.{AreWatched}
use Rattle.block_rules.specs.declared.verdict.Verdict.{Verdict}
use Rattle.feed_frame.specs.declared.fault.FeedFault.{FeedFault}
use Rattle.feed_frame.specs.declared.fault.FeedFault.TheVariants as Fault
use Rattle.feed_frame.specs.Parted.{further}
use Rattle.feed_frame.proofs.PartedLaws.{are_parted}
use Rattle.node_rules.specs.Fitting.{AreEventBytes}
use Rattle.node_rules.specs.Judging.{Rules}
use Rattle.node_rules.specs.Machine.{ChainEvent, State, start, full_judge, step, goes_on, never_stops, event_in}
use Rattle.compact_node.specs.Node.{NodeState, Stands, next_node}
use Rattle.compact_node.specs.State.{stored_state, stored_text}
use Rattle.state_text.specs.Stored.{StateValue, text_by, state_text, IsTextOf}
use Rattle.state_text.specs.OfHistory.{state_of}
use Rattle.compact_node.specs.Throughout.{verdicts_on, node_after, full_after, NoneIsForged}
use Rattle.compact_node.proofs.Storing.{one_node_stands, standing_is_written}
use Rattle.compact_node.proofs.Throughout.{compact_is_full_throughout, verdicts_on-append, told_after, node_throughout, fresh-stands, fresh-node}
use Rattle.feed_run.specs.declared.status.Status.{Status}
use Rattle.report_lines.specs.declared.line.Line.{Line}
use Rattle.node_commands.specs.Answers.{bad_end, last_of}
use Rattle.node_commands.specs.Follow.{line_of, events_for, chain_events, follow_answer, full_text, rules_of}
use Rattle.node_commands.specs.Machine.{end_by}
use Rattle.node_commands.specs.Starting.{IsNodeOf}
use Rattle.node_commands.specs.Stopping.{StandsBehind, IsParted, PiecesAreParted, lines_on, left_on, IsLeftBy, ResumedIsWhole, FreshBegins}
use Rattle.node_commands.proofs.FollowLemmas.{stores_full}
use Rattle.node_commands.proofs.StartLemmas.{back_at}

node-append : (H : List ℕ → Digest) (s : NodeState) (es fs : List ChainEvent)
    → node_after H s (es ++ fs) ≡ node_after H (node_after H s es) fs
node-append H s [] fs = refl
node-append H s (e ∷ es) fs = node-append H (next_node H s e) es fs

all-append : (P : FeedEvent → Type 0) (es fs : List FeedEvent) → AllByRecursion P es → AllByRecursion P fs → AllByRecursion P (es ++ fs)
all-append P [] fs a b = b
all-append P (e ∷ es) fs a b = (a.0, all-append P es fs a.1 b)

-- ---- a node that holds every output, over events behind others

module _ (H : List ℕ → Digest) (scripts : List (List ℕ)) (rules : Rules) where
  goes-past : (v : Option Verdict) (t x y : State) (fs : List ChainEvent) → is_some v ≡ true → x ≡ full_after H scripts rules y fs
      → goes_on v t x ≡ full_after H scripts rules (goes_on v t y) fs
  goes-past None t x y fs e k = absurd cc
  goes-past (Some v) t x y fs e k = k

  full-append : (t : State) (es fs : List ChainEvent) → NoneIsForged H scripts rules t (es ++ fs)
      → (full_after H scripts rules t (es ++ fs) ≡ full_after H scripts rules (full_after H scripts rules t es) fs)
      × NoneIsForged H scripts rules (full_after H scripts rules t es) fs
  full-append t [] fs h = (refl, h)
  full-append t (e ∷ es) fs h =
      let o = step rules (full_judge H scripts rules) t e in
      let parts = and_parts (is_some o.verdict) (never_stops rules (full_judge H scripts rules) o.state (es ++ fs)) h in
      let more = full-append o.state es fs parts.1 in (
        goes-past o.verdict t _ (full_after H scripts rules o.state es) fs parts.0 more.0,
        honest_past (full_after H scripts rules o.state es) o.verdict parts.0 more.1,
      )
    where
      honest_past : (x : State) (v : Option Verdict) → is_some v ≡ true → NoneIsForged H scripts rules x fs
          → NoneIsForged H scripts rules (goes_on v t x) fs
      honest_past x None e k = absurd cc
      honest_past x (Some v) e k = k

-- ---- the law

-- what a feed that was read to its end stores
ends-stored : (refused : Bool) (count : ℕ) (node : NodeState) (ending : Option FeedFault) → ending ≡ None
    → (last_of (end_by refused count node.newest.chain (stored_text node)) (bad_end ending)).out ≡ stored_text node
ends-stored refused count node ending e = ap (λ x. (last_of (end_by refused count node.newest.chain (stored_text node)) (bad_end x)).out) e

-- what is stored is told by what is kept, and whether the feed ended well
same-stored : (r r' : Bool) (n n' : ℕ) (s s' : NodeState) (ending ending' : Option FeedFault) → s ≡ s'
    → is_some (bad_end ending) ≡ is_some (bad_end ending')
    → (last_of (end_by r n s.newest.chain (stored_text s)) (bad_end ending)).out
    ≡ (last_of (end_by r' n' s'.newest.chain (stored_text s')) (bad_end ending')).out
same-stored r r' n n' s s' ending ending' e f =
    ap (λ x. (last_of (end_by r n x.newest.chain (stored_text x)) (bad_end ending)).out) e ∙ by (bad_end ending) (bad_end ending') f
  where
    by : (bad bad' : Option (Status × Line)) → is_some bad ≡ is_some bad'
        → (last_of (end_by r n s'.newest.chain (stored_text s')) bad).out ≡ (last_of (end_by r' n' s'.newest.chain (stored_text s')) bad').out
    by None None same = refl
    by None (Some bad') same = absurd (false≢true same)
    by (Some bad) None same = absurd (false≢true (sym same))
    by (Some (status, line)) (Some (status', line')) same = refl

-- a fault that comes further on ends a feed as badly
bad-further : (n : ℕ) (ending : Option FeedFault) → is_some (bad_end (option_map (further n) ending)) ≡ is_some (bad_end ending)
bad-further n None = refl
bad-further n (Some Fault.ReadFault) = refl
bad-further n (Some (Fault.Magic offset found)) = refl
bad-further n (Some (Fault.Cut offset missing)) = refl
bad-further n (Some (Fault.TooLong offset length)) = refl
bad-further n (Some (Fault.BadRollback offset length)) = refl
bad-further n (Some (Fault.Limit bytes)) = refl
bad-further n (Some Fault.NoMemory) = refl

-- what was stored, or the text of version 1 of the same state, is a text of it
text_left : (s t : StateValue) (out prior : List ℕ) → out ≡ state_text s → t ≡ s → (prior ≡ out) ⊎ (prior ≡ text_by Position t) → IsTextOf s prior
text_left s t out prior stored kept (inl e) = (FixedPosition, e ∙ stored)
text_left s t out prior stored kept (inr e) = (Position, e ∙ ap (text_by Position) kept)

pub pieces_are_parted : PiecesAreParted
pieces_are_parted = λ rules front back room ends settled.
    let parted = are_parted rules.net rules.limits.bytes front back room ends settled in
    record {
      events = parted.events;
      front_ends = ends;
      back_ends = ap (λ e. is_some (bad_end e)) parted.ending ∙ bad-further (length front) (events_for rules back).ending;
    }

module _ (H : List ℕ → Digest) (long : (x : List ℕ) → length (H x).0 ≡ 32) (limits : Limits) (few : limits.leaves < 2 ^ 40) (net : Net)
    (scripts : List (List ℕ)) (watched : AreWatched scripts)
    (before : List FeedEvent) (node again : NodeState) (whole front back : List ℕ) (begun : StandsBehind H limits net scripts before node) where
  abbrev rules : Rules
  rules = rules_of limits net

  abbrev events : List FeedEvent
  events = (events_for rules front).events

  abbrev es : List ChainEvent
  es = chain_events (events_for rules front)

  abbrev then : NodeState
  then = node_after H node es

  abbrev far : State
  far = full_after H scripts rules start (map event_in (before ++ events))

  module _ (parted : IsParted rules whole front back) (bytes : AllByRecursion AreEventBytes events)
      (honest : NoneIsForged H scripts rules start (map event_in (before ++ events))) where
    both : NoneIsForged H scripts rules start (map event_in before ++ es)
    both = subst (NoneIsForged H scripts rules start) (map-append event_in before events) honest

    -- the node stands behind the front, too
    stands : Stands H far then
    stands =
        let f = full-append H scripts rules start (map event_in before) es both in
        let near = full_after H scripts rules start (map event_in before) in
        let Agrees = λ (w : List (List ℕ)) (r : Rules). NoneIsForged H w r near es
        → Stands H (full_after H w r near es) then in
        let one : Agrees node.scripts node.rules = λ h. (compact_is_full_throughout H near node es begun.is begun.stands h).stands in
        let two = subst (λ r. Agrees scripts r) begun.rules_are (subst (λ w. Agrees w node.rules) begun.scripts_are one) in
        subst (λ t. Stands H t then) (sym f.0 ∙ ap (full_after H scripts rules start) (sym (map-append event_in before events)))
        (two f.1)

    told : (then.rules ≡ rules) × (then.scripts ≡ scripts)
    told = let t = told_after H node es in (t.0 ∙ begun.rules_are, t.1 ∙ begun.scripts_are)

    over : (feed : List ℕ) → events_for node.rules feed ≡ events_for rules feed
    over feed = ap (λ r. events_for r feed) begun.rules_are

    -- what the run stored is the text of the far state
    stored : (follow_answer H node front).out ≡ full_text H scripts rules far
    unfolding follow_answer
    stored =
        let last = λ (r : Rules). node_after H node (chain_events (events_for r front)) in
        ends-stored _ _ (last node.rules) (events_for node.rules front).ending
        (ap (λ r. (events_for r front).ending) begun.rules_are ∙ parted.front_ends)
        ∙ ap (λ r. stored_text (last r)) begun.rules_are
        ∙ stores_full H node es far begun.is stands ∙ ap₂ (λ w r. full_text H w r far) begun.scripts_are begun.rules_are

    -- and what the node keeps is that state
    kept : stored_state (left_on H node front) ≡ state_of H net scripts far
    kept =
        ap (λ xs. stored_state (node_after H node (chain_events xs))) (over front)
        ∙ standing_is_written H far then (node_throughout H node es begun.is) stands
        ∙ ap₂ (λ (r : Rules) w. state_of H r.net w far) told.0 told.1

    module _ (prior : List ℕ) (left_by : IsLeftBy H node front prior) (read : IsNodeOf H limits prior again) where
      is_text : IsTextOf (state_of H net scripts far) prior
      is_text = text_left (state_of H net scripts far) (stored_state (left_on H node front)) (follow_answer H node front).out prior stored kept
          left_by

      again_is : again ≡ then
      again_is =
          let b = back_at H long limits few net scripts watched (before ++ events) (all-append AreEventBytes before events begun.bytes bytes) prior
          is_text again read in
          one_node_stands H far again then b.is (node_throughout H node es begun.is) (b.rules_are ∙ sym told.0)
          (b.scripts_are ∙ sym told.1) b.stands stands

      again_stands : StandsBehind H limits net scripts (before ++ events) again
      again_stands = record {
        bytes = all-append AreEventBytes before events begun.bytes bytes;
        honest = honest;
        is = read.is;
        rules_are = ap (λ (s : NodeState). s.rules) again_is ∙ told.0;
        scripts_are = ap (λ (s : NodeState). s.scripts) again_is ∙ told.1;
        stands = subst (Stands H far) (sym again_is) stands;
      }

      abbrev later : List ChainEvent
      later = chain_events (events_for rules back)

      all_events : chain_events (events_for node.rules whole) ≡ es ++ later
      all_events = ap chain_events (over whole) ∙ ap (map event_in) parted.events ∙ map-append event_in events (events_for rules back).events

      on_back : chain_events (events_for again.rules back) ≡ later
      on_back = ap (λ r. chain_events (events_for r back)) again_stands.rules_are

      lines : lines_on H node whole ≡ lines_on H node front ++ lines_on H again back
      lines =
          let said = λ (s : NodeState) (xs : List ChainEvent). verdicts_on H s xs in
          ap (λ xs. flat_map line_of (said node xs)) all_events
          ∙ ap (flat_map line_of) (verdicts_on-append H node es later)
          ∙ flat_map-append line_of (said node es) (said then later)
          ∙ ap₂ (λ xs s. flat_map line_of (said node (chain_events xs)) ++ flat_map line_of (said s later)) (sym (over front)) (sym again_is)
          ∙ ap (λ xs. lines_on H node front ++ flat_map line_of (said again xs)) (sym on_back)

      left : left_on H node whole ≡ left_on H again back
      left =
          ap (node_after H node) all_events ∙ node-append H node es later ∙ ap (λ s. node_after H s later) (sym again_is)
          ∙ ap (node_after H again) (sym on_back)

      same_stored : (follow_answer H node whole).out ≡ (follow_answer H again back).out
      unfolding follow_answer
      same_stored =
          same-stored _ _ _ _ (left_on H node whole) (left_on H again back) (events_for node.rules whole).ending (events_for again.rules back).ending
          left
          (ap (λ x. is_some (bad_end x.ending)) (over whole) ∙ parted.back_ends
          ∙ ap (λ r. is_some (bad_end (events_for r back).ending)) (sym again_stands.rules_are))

pub resumed_is_whole : ResumedIsWhole
resumed_is_whole = λ H long limits few net scripts watched before node again whole front back prior begun parted bytes honest left_by read. (
  record {
    lines = lines H long limits few net scripts watched before node again whole front back begun parted bytes honest prior left_by read;
    left = left H long limits few net scripts watched before node again whole front back begun parted bytes honest prior left_by read;
    stored = same_stored H long limits few net scripts watched before node again whole front back begun parted bytes honest prior left_by read;
  },
  again_stands H long limits few net scripts watched before node again whole front back begun parted bytes honest prior left_by read,
)

pub fresh_begins : FreshBegins
fresh_begins = λ H limits few short net scripts. record {
  bytes = tt;
  honest = refl;
  is = fresh-node H net limits scripts few short;
  rules_are = refl;
  scripts_are = refl;
  stands = fresh-stands H net limits scripts;
}
