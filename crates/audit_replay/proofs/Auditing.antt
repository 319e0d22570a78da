-- What an auditor keeps after an event is again what an auditor keeps.
use Rattle.std.proofs.Common.{◌≡◌, ℕ, Bool, true, false, List, [], ◌∷◌, Option, Some, None, refl, sym, ap, ◌∙◌, subst, ◌<◌, ◌^◌}
use Rattle.uo_base.specs.declared.event.Limits.{Limits}
use Rattle.uo_base.specs.declared.event.Net.{Net}
use Rattle.uo_digest.specs.declared.digest.Digest.{Digest}
use Rattle.block_rules.specs.declared.refusal.Refusal.{Refusal}
use Rattle.block_rules.specs.declared.verdict.Verdict.{Verdict}
use Rattle.node_rules.specs.Judging.{Rules}
use Rattle.node_rules.specs.Machine.{ChainEvent, BlockCame, RollbackCame, StrayCame, OnEachLevel, start, full_judge, goes_on, state_after}
use Rattle.node_rules.specs.Machine.{full_outcome}
use Rattle.node_rules.specs.Fitting.{EventFits, LevelFits}
use Rattle.node_rules.specs.Laws.{IsSound}
use Rattle.node_rules.proofs.Fitting.{after_fits, start_fits}
use Rattle.node_rules.proofs.Value.{after_sound, start_sound, full_judge-pays}
use Rattle.bridge_prover.specs.Bridge.{BridgeState, fresh_bridge, bridge_by}
use Rattle.bridge_prover.specs.Standing.{IsBridge}
use Rattle.bridge_prover.specs.Watched.{scripts_of}
use Rattle.bridge_prover.specs.Full.{watched_by, is_forged_on, full_refusal_on, judged_on, after_shown, kept_if, next_judged, LevelsJudged}
use Rattle.bridge_prover.proofs.Fully.{bridge_is_full, next_judged_is_bridge, levels_judged}
use Rattle.bridge_prover.proofs.Refining.{fresh_is_bridge, fresh_stands}
use Rattle.bridge_prover.proofs.Throughout.{kept_rules, kept_watch}
use Rattle.audit_replay.specs.Audit.{IsAudit}

module _ (H : List ℕ → Digest) where
  -- the rules stay the same
  pub judged_rules : (s : BridgeState) (e : ChainEvent) → (next_judged H s e).rules ≡ s.rules
  judged_rules s (BlockCame None handed) = refl
  judged_rules s (BlockCame (Some b) handed) = by (is_forged_on H s b handed) (full_refusal_on H s b handed)
    where
      by : (f : Bool) (x : Option Refusal) → (kept_if f s (bridge_by x (after_shown H s b handed) s)).rules ≡ s.rules
      by true x = refl
      by false None = refl
      by false (Some why) = refl
  judged_rules s (RollbackCame k) = kept_rules H s (RollbackCame k)
  judged_rules s StrayCame = refl

  -- and so do the scripts
  pub judged_scripts : (s : BridgeState) (e : ChainEvent) → watched_by (next_judged H s e) ≡ watched_by s
  judged_scripts s (BlockCame None handed) = refl
  judged_scripts s (BlockCame (Some b) handed) = by (is_forged_on H s b handed) (full_refusal_on H s b handed)
    where
      by : (f : Bool) (x : Option Refusal) → watched_by (kept_if f s (bridge_by x (after_shown H s b handed) s)) ≡ watched_by s
      by true x = refl
      by false None = refl
      by false (Some why) = refl
  judged_scripts s (RollbackCame k) = ap scripts_of (kept_watch H s (RollbackCame k))
  judged_scripts s StrayCame = refl

  -- at a forged event nothing changes
  pub forged_stays : (s : BridgeState) (e : ChainEvent) → IsBridge H s → judged_on H s e ≡ None → next_judged H s e ≡ s
  forged_stays s e is none = subst (λ v. LevelsJudged s v (next_judged H s e)) none (levels_judged H s e is)

  pub next_is_audit : (s : BridgeState) (e : ChainEvent) → IsAudit H s → EventFits e → IsAudit H (next_judged H s e)
  next_is_audit s e a fits = by (judged_on H s e) refl
    where
      by : (v : Option Verdict) → judged_on H s e ≡ v → IsAudit H (next_judged H s e)
      by None none = subst (IsAudit H) (sym (forged_stays s e a.is none)) a
      by (Some v) some =
          let o = full_outcome H (watched_by s) s.rules a.levels e in
          let full = bridge_is_full H s e a.is a.levels a.stands in
          let there : state_after s.rules (full_judge H (watched_by s) s.rules) a.levels (e ∷ []) ≡ o.state =
          ap (λ x. goes_on x a.levels o.state) (full.0 ∙ some) in
          record {
            is = next_judged_is_bridge H s e a.is;
            levels = o.state;
            stands = full.1;
            fits = subst (λ r. OnEachLevel (LevelFits r) o.state) (sym (judged_rules s e))
                (subst (OnEachLevel (LevelFits s.rules)) there
                (after_fits s.rules (full_judge H (watched_by s) s.rules) a.levels (e ∷ []) (fits, tt) a.fits));
            sound = subst (λ r. OnEachLevel (IsSound r) o.state) (sym (judged_rules s e))
                (subst (OnEachLevel (IsSound s.rules)) there (after_sound s.rules (full_judge H (watched_by s) s.rules)
                (full_judge-pays H (watched_by s) s.rules) a.levels (e ∷ []) a.sound));
          }

  pub fresh_is_audit : (net : Net) (limits : Limits) (watch : Option (List (List ℕ))) → limits.leaves < 2 ^ 40
      → IsAudit H (fresh_bridge net limits watch)
  fresh_is_audit net limits watch few =
      let rules : Rules = record { net = net; limits = limits } in
      record {
        is = fresh_is_bridge H net limits watch few;
        levels = start;
        stands = fresh_stands H net limits watch;
        fits = start_fits rules;
        sound = start_sound rules;
      }
