-- What holds of one event holds of a list of events.
use Rattle.std.proofs.Common.{◌≡◌, ℕ, false, List, [], ◌∷◌, length, Option, Some, None, refl, sym, ap, ap₂, ◌∙◌, subst}
use Rattle.std.specs.Prelude.{not, ◌&&◌, is_some, is_none, slice_get, option_and_then}
use Rattle.uo_digest.specs.declared.digest.Digest.{Digest}
use Rattle.leaf_record.specs.History.{History, supply}
use Rattle.block_rules.specs.declared.chain.Chain.{Chain}
use Rattle.block_rules.specs.declared.verdict.Verdict.{Verdict}
use Rattle.node_rules.specs.Judging.{Rules}
use Rattle.node_rules.specs.Machine.{ChainEvent, State, start, issued, full_judge, verdict_before, verdicts, goes_on, state_after, never_stops}
use Rattle.node_rules.specs.Machine.{full_outcome}
use Rattle.bridge_prover.specs.Standing.{Stands, IsBridge}
use Rattle.bridge_prover.specs.Full.{watched_by, history_of, judged_on, next_judged}
use Rattle.bridge_prover.proofs.Fully.{bridge_is_full, next_judged_is_bridge}
use Rattle.bridge_prover.proofs.Historied.{is_history, newest_history}
use Rattle.bridge_prover.proofs.Refining.{fresh_is_bridge, fresh_stands}
use Rattle.clash_find.specs.Clashes.{TextClash}
use Rattle.audit_replay.specs.Audit.{AuditState, fresh_audit, next_audit, clash_at, clash_on}
use Rattle.audit_replay.specs.Laws.{verdicts_on, ends_at, audit_after, shown_or, shown_on, AuditsThroughout, AuditIsFullThroughout, FreshIsFull}
use Rattle.audit_replay.specs.Laws.{SupplyIsOfLevel}
use Rattle.audit_replay.proofs.Auditing.{judged_rules, judged_scripts, forged_stays}

module _ (H : List ℕ → Digest) (scripts : List (List ℕ)) (rules : Rules) where
  -- what is said of the first event, and of the later ones
  module _ (t : State) (s : AuditState) (e : ChainEvent) (es : List ChainEvent) (watched : watched_by s.bridge ≡ scripts) (is : IsBridge H s.bridge)
      (stands : Stands H t s.bridge)
      (one : let o = full_outcome H scripts rules t e in
      (o.verdict ≡ judged_on H s.bridge e) × Stands H o.state (next_judged H s.bridge e)) where
    abbrev rest : State
    rest = (full_outcome H scripts rules t e).state

    abbrev next : AuditState
    next = next_audit H s e

    -- what is shown at it is what the node would show
    clash_here : clash_on H s.bridge e ≡ clash_at H scripts t.now.history t.now.blocks e
    clash_here =
        ap (λ w. clash_at H w (history_of s.bridge) s.bridge.chain.blocks e) watched
        ∙ ap₂ (λ (us : History) (c : Chain). clash_at H scripts us c.blocks e)
        (is_history H s.bridge t.now.history (newest_history H t s.bridge is stands)) stands.chain

    abbrev shows_with : Option Verdict → Option TextClash
    shows_with v =
        let level = (goes_on v t (state_after rules (full_judge H scripts rules) rest es)).now in
        option_and_then (clash_at H scripts level.history level.blocks)
        (slice_get (e ∷ es) (length (verdict_before v (verdicts rules (full_judge H scripts rules) rest es))))

    -- a forged event is the last
    last : judged_on H s.bridge e ≡ None → AuditsThroughout H scripts rules t s (e ∷ es)
    last none =
        let stops = one.0 ∙ none in
        record {
          said = ap (λ v. verdict_before v (verdicts_on H next es)) none
              ∙ sym (ap (λ v. verdict_before v (verdicts rules (full_judge H scripts rules) rest es)) stops);
          ended =
              ap (λ (v : Option Verdict). (ends_at v next (audit_after H next es)).ended) none
              ∙ (ap is_none none ∙ sym (ap (λ v. not (is_some v && never_stops rules (full_judge H scripts rules) rest es)) stops));
          shown = ap (λ v. shown_or v (clash_on H s.bridge e) (shown_on H next es)) none ∙ (clash_here ∙ sym (ap shows_with stops));
          stands =
              subst (λ v. Stands H (state_after rules (full_judge H scripts rules) t (e ∷ es))
              (ends_at v next (audit_after H next es)).bridge) (sym none)
              (subst (λ v. Stands H (goes_on v t (state_after rules (full_judge H scripts rules) rest es)) (next_judged H s.bridge e))
              (sym stops)
              (subst (Stands H t) (sym (forged_stays H s.bridge e is none)) stands));
        }

    more : (v : Verdict) → judged_on H s.bridge e ≡ Some v → AuditsThroughout H scripts rules rest next es
        → AuditsThroughout H scripts rules t s (e ∷ es)
    more v some later =
        let told = one.0 ∙ some in
        record {
          said =
              ap (λ v. verdict_before v (verdicts_on H next es)) some
              ∙ (ap (λ vs. v ∷ vs) later.said ∙ sym (ap (λ v. verdict_before v (verdicts rules (full_judge H scripts rules) rest es)) told));
          ended =
              ap (λ (v : Option Verdict). (ends_at v next (audit_after H next es)).ended) some
              ∙ (later.ended ∙ sym (ap (λ v. not (is_some v && never_stops rules (full_judge H scripts rules) rest es)) told));
          shown = ap (λ v. shown_or v (clash_on H s.bridge e) (shown_on H next es)) some ∙ (later.shown ∙ sym (ap shows_with told));
          stands =
              subst (λ v. Stands H (state_after rules (full_judge H scripts rules) t (e ∷ es))
              (ends_at v next (audit_after H next es)).bridge) (sym some)
              (subst (λ v. Stands H (goes_on v t (state_after rules (full_judge H scripts rules) rest es))
              (audit_after H next es).bridge) (sym told) later.stands);
        }

  abbrev One : State → AuditState → ChainEvent → Type 0
  One t s e = let o = full_outcome H scripts rules t e in
      (o.verdict ≡ judged_on H s.bridge e) × Stands H o.state (next_judged H s.bridge e)

  agrees : (events : List ChainEvent) (t : State) (s : AuditState) → s.bridge.rules ≡ rules → watched_by s.bridge ≡ scripts → IsBridge H s.bridge
      → Stands H t s.bridge → s.ended ≡ false → AuditsThroughout H scripts rules t s events
  agrees [] t s same watched is stands going = record { said = refl; ended = going; shown = refl; stands = stands }
  agrees (e ∷ es) t s same watched is stands going =
      let full = bridge_is_full H s.bridge e is t stands in
      let one : One t s e =
      subst (λ r. let o = full_outcome H scripts r t e in
      (o.verdict ≡ judged_on H s.bridge e) × Stands H o.state (next_judged H s.bridge e)) same
      (subst (λ w. let o = full_outcome H w s.bridge.rules t e in
      (o.verdict ≡ judged_on H s.bridge e) × Stands H o.state (next_judged H s.bridge e)) watched full) in
      by one (judged_on H s.bridge e) refl
      (agrees es (full_outcome H scripts rules t e).state (next_audit H s e) (judged_rules H s.bridge e ∙ same)
      (judged_scripts H s.bridge e ∙ watched) (next_judged_is_bridge H s.bridge e is) one.1)
    where
      by : One t s e → (v : Option Verdict) → judged_on H s.bridge e ≡ v
          → ((next_audit H s e).ended ≡ false → AuditsThroughout H scripts rules (full_outcome H scripts rules t e).state
          (next_audit H s e) es) → AuditsThroughout H scripts rules t s (e ∷ es)
      by one None none later = last t s e es watched is stands one none
      by one (Some v) some later = more t s e es watched is stands one v some (later (ap is_none some))

pub audit_is_full_throughout : AuditIsFullThroughout
audit_is_full_throughout H t s events is stands going = agrees H (watched_by s.bridge) s.bridge.rules events t s refl refl is stands going

pub fresh_is_full : FreshIsFull
fresh_is_full H net limits scripts few events =
    audit_is_full_throughout H start (fresh_audit net limits scripts) events (fresh_is_bridge H net limits (Some scripts) few)
    (fresh_stands H net limits (Some scripts)) refl

pub supply_is_of_level : SupplyIsOfLevel
supply_is_of_level H t s is stands = (
  ap supply (is_history H s t.now.history (newest_history H t s is stands)),
  ap (λ (c : Chain). issued s.rules.net c.blocks) stands.chain,
)
