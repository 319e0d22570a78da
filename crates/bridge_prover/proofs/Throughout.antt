-- What holds of one event holds of a list of events.
use Rattle.std.proofs.Common.{◌≡◌, ℕ, zero, suc, Bool, true, false, List, [], ◌∷◌, map, length, Option, Some, None, refl, sym, ap, ap₂, subst, ◌∙◌}
use Rattle.std.proofs.Common.{⊎_elim}
use Rattle.std.specs.Prelude.{nat_le, if◌then◌else◌}
use Rattle.std.proofs.lemmas.Bool.{cases_Bool}
use Rattle.uo_base.specs.FeedEvent.{FeedEvent}
use Rattle.uo_base.specs.FeedEvent as Feed
use Rattle.uo_digest.specs.declared.digest.Digest.{Digest}
use Rattle.block_rules.specs.declared.refusal.Refusal.{Refusal}
use Rattle.node_rules.specs.Judging.{Rules}
use Rattle.node_rules.specs.Machine.{ChainEvent, BlockCame, RollbackCame, StrayCame, State, start, event_in, own_judge, is_made, verdict_before}
use Rattle.node_rules.specs.Machine.{goes_on, verdicts, state_after}
use Rattle.node_rules.specs.Proving.{passed_on, proved_events}
use Rattle.reorg_undo.specs.Undo.{UndoRecord}
use Rattle.bridge_prover.specs.Bridge.{BridgeState, fresh_bridge, refusal_on, verdict_on, after_block, bridge_by, undone_by, gone_back, next_bridge}
use Rattle.bridge_prover.specs.Bridge.{message_on}
use Rattle.bridge_prover.specs.Standing.{IsBridge, Stands}
use Rattle.bridge_prover.specs.Laws.{own_outcome, own_text, text_by, IsAsOwn}
use Rattle.bridge_prover.specs.Throughout.{verdicts_on, bridge_after, passed_by, passed_by_bridge, ProvesThroughout, BridgeProvesThroughout}
use Rattle.bridge_prover.specs.Throughout.{FreshProvesThroughout}
use Rattle.bridge_prover.proofs.Refining.{bridge_is_own, next_is_bridge, fresh_stands, fresh_is_bridge}

module _ (H : List ℕ → Digest) where
  -- ---- one event

  undone_rules : (us : List UndoRecord) (s : BridgeState) → (undone_by H us s).rules ≡ s.rules
  undone_rules [] s = refl
  undone_rules (u ∷ us) s = refl

  back_rules : (k : ℕ) (s : BridgeState) → (gone_back H k s).rules ≡ s.rules
  back_rules zero s = refl
  back_rules (suc k) s = back_rules k (undone_by H s.undo s) ∙ undone_rules s.undo s

  pub kept_rules : (s : BridgeState) (e : ChainEvent) → (next_bridge H s e).rules ≡ s.rules
  kept_rules s (BlockCame None handed) = refl
  kept_rules s (BlockCame (Some b) handed) = by (refusal_on s b)
    where
      by : (why : Option Refusal) → (bridge_by why (after_block H s b) s).rules ≡ s.rules
      by None = refl
      by (Some why) = refl
  kept_rules s (RollbackCame k) = ⊎_elim (λ t. rw t (back_rules k s)) (λ t. rw t refl) (cases_Bool (nat_le k (length s.undo)))
  kept_rules s StrayCame = refl

  undone_watch : (us : List UndoRecord) (s : BridgeState) → (undone_by H us s).watch ≡ s.watch
  undone_watch [] s = refl
  undone_watch (u ∷ us) s = refl

  back_watch : (k : ℕ) (s : BridgeState) → (gone_back H k s).watch ≡ s.watch
  back_watch zero s = refl
  back_watch (suc k) s = back_watch k (undone_by H s.undo s) ∙ undone_watch s.undo s

  pub kept_watch : (s : BridgeState) (e : ChainEvent) → (next_bridge H s e).watch ≡ s.watch
  kept_watch s (BlockCame None handed) = refl
  kept_watch s (BlockCame (Some b) handed) = by (refusal_on s b)
    where
      by : (why : Option Refusal) → (bridge_by why (after_block H s b) s).watch ≡ s.watch
      by None = refl
      by (Some why) = refl
  kept_watch s (RollbackCame k) = ⊎_elim (λ t. rw t (back_watch k s)) (λ t. rw t refl) (cases_Bool (nat_le k (length s.undo)))
  kept_watch s StrayCame = refl

  module _ (watch : Option (List (List ℕ))) (rules : Rules) where
    -- what is made is passed on alike
    same_event : (t : State) (s : BridgeState) (event : FeedEvent) → is_made (own_outcome rules t (event_in event)).verdict ≡ true →
        message_on H s (event_in event) ≡ own_text H watch rules t (event_in event) → passed_by H s event ≡ passed_on H watch t.now event
    same_event t s (Feed.BlockCame bytes message) made e =
        ap (Feed.BlockCame bytes) (e ∙ ap (λ b. if b then text_by H watch t.now (event_in (Feed.BlockCame bytes message)) else None) made)
    same_event t s (Feed.RollbackCame count) made e = refl
    same_event t s Feed.StrayCame made e = refl

    -- ---- all events

    more : (t : State) (s : BridgeState) (event : FeedEvent) (events : List FeedEvent) → let e = event_in event in
        IsAsOwn H watch rules t e (verdict_on s e) (message_on H s e) (next_bridge H s e)
        → ProvesThroughout H watch rules (own_outcome rules t e).state (next_bridge H s e) events
        → ProvesThroughout H watch rules t s (event ∷ events)
    more t s event events one later =
        let e = event_in event in
        let o = own_outcome rules t e in
        let s' = next_bridge H s e in
        let rest = map event_in events in
        record {
          said = subst (λ w. (verdict_on s e ∷ verdicts_on H s' rest) ≡ verdict_before w (verdicts rules own_judge o.state rest)) (sym one.said)
              (ap (λ vs. verdict_on s e ∷ vs) later.said);
          passed =
              subst (λ w. passed_by_bridge H s (event ∷ events) ≡ (if is_made w then passed_on H watch t.now event
              ∷ proved_events H watch rules o.state events else proved_events H watch rules o.state events)) (sym one.said)
              (by (is_made (Some (verdict_on s e))) refl);
          stands = subst (λ w. Stands H (goes_on w t (state_after rules own_judge o.state rest)) (bridge_after H s' rest)) (sym one.said)
              later.stands;
        }
      where
        by : (b : Bool) → is_made (Some (verdict_on s (event_in event))) ≡ b →
            (let later' = passed_by_bridge H (next_bridge H s (event_in event)) events in
            if b then passed_by H s event ∷ later' else later')
            ≡ (let own = proved_events H watch rules (own_outcome rules t (event_in event)).state events in
            if b then passed_on H watch t.now event ∷ own else own)
        by true made = ap₂ (λ x xs. x ∷ xs) (same_event t s event (ap is_made one.said ∙ made) one.passed) later.passed
        by false made = later.passed

    agrees : (events : List FeedEvent) (t : State) (s : BridgeState) → s.watch ≡ watch → s.rules ≡ rules → IsBridge H s → Stands H t s
        → ProvesThroughout H watch rules t s events
    agrees [] t s list same is stands = record { said = refl; passed = refl; stands = stands }
    agrees (event ∷ events) t s list same is stands =
        let e = event_in event in
        let one = subst (λ r. IsAsOwn H watch r t e (verdict_on s e) (message_on H s e) (next_bridge H s e)) same
        (subst (λ w. IsAsOwn H w s.rules t e (verdict_on s e) (message_on H s e) (next_bridge H s e)) list
        (bridge_is_own H s e is t stands)) in
        more t s event events one (agrees events (own_outcome rules t e).state (next_bridge H s e) (kept_watch s e ∙ list)
        (kept_rules s e ∙ same) (next_is_bridge H s e is) one.stands)

pub bridge_proves_throughout : BridgeProvesThroughout
bridge_proves_throughout H t s events is stands = agrees H s.watch s.rules events t s refl refl is stands

pub fresh_proves_throughout : FreshProvesThroughout
fresh_proves_throughout H net limits watch few events =
    bridge_proves_throughout H start (fresh_bridge net limits watch) events (fresh_is_bridge H net limits watch few)
    (fresh_stands H net limits watch)
