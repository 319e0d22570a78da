-- A run that goes on from a prior state.
use Rattle.std.proofs.Common.{◌≡◌, inl, inr, ℕ, ◌<◌, ◌≤◌, ◌^◌, List, [], ◌∷◌, length, map, Option, Some, None, Result, Ok, Err, IfOk, sym, ap₂}
use Rattle.std.proofs.Common.{subst, arith}
use Rattle.std.specs.Prelude.{IfSome}
use Rattle.std.specs.List.{AllByRecursion}
use Rattle.uo_base.specs.declared.event.Limits.{Limits}
use Rattle.uo_base.specs.declared.event.Net.{Net}
use Rattle.uo_base.specs.FeedEvent.{FeedEvent}
use Rattle.uo_base.specs.Told.{Tells}
use Rattle.uo_digest.specs.declared.digest.Digest.{Digest}
use Rattle.leaf_cache.specs.Watched.{AreWatched}
use Rattle.node_rules.specs.Fitting.{AreEventBytes, EventFits}
use Rattle.node_rules.specs.Judging.{Rules}
use Rattle.node_rules.specs.Machine.{State, start, full_judge, event_in}
use Rattle.node_rules.proofs.Fitting.{read_event_fits}
use Rattle.state_text.specs.declared.fault.StateFault.{StateFault}
use Rattle.state_text.specs.declared.fault.StateFault.TheVariants.{NotAState, Version}
use Rattle.state_text.specs.Fits.{IsState}
use Rattle.state_text.specs.Stored.{IsTextOf}
use Rattle.state_text.specs.OfHistory.{IsHistory, state_of}
use Rattle.state_text.proofs.LevelLaws.{history_has_state, one_version}
use Rattle.state_text.proofs.Reaching.{reached_is_history}
use Rattle.compact_node.specs.Node.{NodeState, IsNode, Stands}
use Rattle.compact_node.specs.Throughout.{full_after}
use Rattle.compact_node.proofs.Storing.{written_comes_back}
use Rattle.feed_run.specs.declared.status.Status.TheVariants.{InputLimit}
use Rattle.report_lines.specs.declared.line.Line.TheVariants.{LimitPrior}
use Rattle.node_commands.specs.declared.bad_input.BadInput.{BadInput}
use Rattle.node_commands.specs.Follow.{follow_answer, rules_of, IsAsOfFull}
use Rattle.node_commands.specs.Starting.{Start, IsNodeOf, IsLong, IsOther, IsNone, IsStart, IsStartOf, start_answer, ResumesAsFull}
use Rattle.node_commands.proofs.FollowLemmas.{as-of-full}

-- ---- what a node holds that holds every output

events_fit : (events : List FeedEvent) → AllByRecursion AreEventBytes events → AllByRecursion EventFits (map event_in events)
events_fit [] all = tt
events_fit (event ∷ events) all = (read_event_fits event all.0, events_fit events all.1)

module _ (H : List ℕ → Digest) (long : (x : List ℕ) → length (H x).0 ≡ 32) (limits : Limits) (few : limits.leaves < 2 ^ 40) (net : Net)
    (scripts : List (List ℕ)) (watched : AreWatched scripts)
    (before : List FeedEvent) (bytes : AllByRecursion AreEventBytes before) where
  abbrev rules : Rules
  rules = rules_of limits net

  abbrev reached : State
  reached = full_after H scripts rules start (map event_in before)

  pub reached_history : IsHistory limits.leaves reached
  reached_history = reached_is_history rules (full_judge H scripts rules) (map event_in before) (events_fit before bytes)

  whole : IsState H limits.leaves (state_of H net scripts reached)
  whole = history_has_state H net scripts limits.leaves reached long few watched reached_history

  same_rules : (r : Rules) → r.net ≡ net → r.limits ≡ limits → r ≡ rules
  same_rules r n l = ap₂ (λ (k : Net) (m : Limits). let x : Rules = record { net = k; limits = m } in x) n l

  -- the node that is read of its text stands for it
  pub record IsBackAt (node : NodeState) : Type 0 where
    pub is : IsNode node
    pub rules_are : node.rules ≡ rules
    pub scripts_are : node.scripts ≡ scripts
    pub stands : Stands H reached node

  module _ (text : List ℕ) (is : IsTextOf (state_of H net scripts reached) text) where
    pub back_at : (node : NodeState) → IsNodeOf H limits text node → IsBackAt node
    back_at node n =
        let b = written_comes_back H net scripts reached text node long watched n.is
        (subst (λ m. IsHistory m.leaves reached) (sym n.limits_are) reached_history) is n.reads in
        record { is = n.is; rules_are = same_rules node.rules b.net_is n.limits_are; scripts_are = b.scripts_are; stands = b.stands }

    -- and nothing else is
    not_long : (bad : BadInput) → length text ≤ limits.bytes → IsLong limits text bad → ⊥
    not_long bad short l = absurd (omega (arith, short, l.long))

    not_other : (bad : BadInput) → IsOther limits text bad → ⊥
    not_other bad o = absurd (one_version (state_of H net scripts reached) text o.version is o.other)

    not_none : (bad : BadInput) → IsNone H limits text bad → ⊥
    not_none bad n = n.none (state_of H net scripts reached) whole is

    pub no_bad : (bad : BadInput) → length text ≤ limits.bytes → IsStart H limits text (Err bad) → ⊥
    no_bad bad short (inl l) = not_long bad short l
    no_bad bad short (inr (inl o)) = not_other bad o
    no_bad bad short (inr (inr n)) = not_none bad n

    pub answers : (feed : List ℕ) (begun : Start) → length text ≤ limits.bytes → IsStart H limits text begun
        → IsAsOfFull H scripts rules reached feed (start_answer H begun feed)
    answers feed (Ok node) short s =
        let b = back_at node s in
        subst (λ w. IsAsOfFull H w rules reached feed (follow_answer H node feed)) b.scripts_are
        (subst (λ r. IsAsOfFull H node.scripts r reached feed (follow_answer H node feed)) b.rules_are (as-of-full H reached node b.is b.stands feed))
    answers feed (Err bad) short s = absurd (no_bad bad short s)

pub resumes-as-full : (H : List ℕ → Digest) → ((x : List ℕ) → length (H x).0 ≡ 32) → (limits : Limits) → limits.leaves < 2 ^ 40
    → (prior feed : List ℕ) (begun : Option Start) → IfSome begun (IsStart H limits prior)
    → ResumesAsFull H limits prior feed begun
resumes-as-full H long limits few prior feed None m = λ net scripts before watched bytes honest is short. tt
resumes-as-full H long limits few prior feed (Some begun) m =
    λ net scripts before watched bytes honest is short. answers H long limits few net scripts watched before bytes prior is feed begun short m

-- ---- what is read

pub starts-long : (H : List ℕ → Digest) (limits : Limits) (left : Option (List ℕ)) (bad : BadInput) (text : List ℕ)
    → Tells left text → bad ≡ record { status = InputLimit; line = LimitPrior limits.bytes } → limits.bytes < length text → IsStartOf H limits left (Err bad)
starts-long H limits left bad text told is long = record { text = text; told = told; is = inl (record { long = long; is = is }) }

pub starts-read : (H : List ℕ → Digest) (limits : Limits) (left : Option (List ℕ)) (text : List ℕ) → Tells left text
    → {E : Type 0} (r : Result Start E) → IfOk r (IsStart H limits text) → IfOk r (IsStartOf H limits left)
starts-read H limits left text told (Ok begun) is = record { text = text; told = told; is = is }
starts-read H limits left text told (Err stop) is = tt

pub not_both : {X : Type 0} (r : Result X StateFault) (v : ℕ) → r ≡ Err NotAState → r ≡ Err (Version v) → ⊥
not_both r v e f = absurd cc
