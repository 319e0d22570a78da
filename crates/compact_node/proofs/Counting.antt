-- What a verdict tells of the levels, and how many older ones there are.
use Rattle.std.proofs.Common.{◌≡◌, ℕ, zero, suc, ◌+◌, ◌-◌, ◌≤◌, Bool, true, false, List, [], ◌∷◌, length, drop, Option, Some, None, refl, ap, ◌∙◌}
use Rattle.std.proofs.Common.{subst, sym, arith}
use Rattle.std.specs.Prelude.{nat_le, Result, Ok, Err, IfOk, OnOk}
use Rattle.std.proofs.lemmas.Bool.{leb-true, leb-false}
use Rattle.std.proofs.lemmas.List.{length-take}
use Rattle.uo_base.specs.declared.event.Event.{Event}
use Rattle.uo_base.specs.FeedEvent.{event_of}
use Rattle.uo_digest.specs.declared.digest.Digest.{Digest}
use Rattle.block_rules.specs.Blocks.{new_records}
use Rattle.block_rules.specs.declared.refusal.Refusal.{Refusal}
use Rattle.block_rules.specs.declared.verdict.Verdict.{Verdict}
use Rattle.node_rules.specs.Judging.{Rules}
use Rattle.node_rules.specs.Laws.{kept_after}
use Rattle.node_rules.specs.Machine.{ChainEvent, BlockCame, RollbackCame, StrayCame, event_in, verdict_by}
use Rattle.compact_node.specs.Node.{NodeState, LevelState, IsNode, AreOlder, back_from, node_refusal, node_by, node_with, node_verdict, next_node}
use Rattle.compact_node.specs.Laws.{LevelsTold}
use Rattle.compact_node.specs.Throughout.{verdicts_on, node_after, kept_by}

-- ---- back by k levels

module _ (rules : Rules) (scripts : List (List ℕ)) where
  back-kept : (k : ℕ) (l : LevelState) (ls : List LevelState) → k ≤ length ls → length (back_from rules scripts k l ls).older ≡ length ls - k
  back-kept zero l ls h = omega arith
  back-kept (suc k) l [] h = absurd (omega (arith, h))
  back-kept (suc k) l (m ∷ ls) h = let e = back-kept k m ls (omega (arith, h)) in omega (arith, e)

  back-drops : (k : ℕ) (l : LevelState) (ls : List LevelState) → k ≤ length ls → let s = back_from rules scripts k l ls in
      s.newest ∷ s.older ≡ drop k (l ∷ ls)
  back-drops zero l ls h = refl
  back-drops (suc k) l [] h = absurd (omega (arith, h))
  back-drops (suc k) l (m ∷ ls) h = back-drops k m ls (omega (arith, h))

  back-blocks : (k : ℕ) (l : LevelState) (ls : List LevelState) → k ≤ length ls → AreOlder rules l.chain ls
      → (back_from rules scripts k l ls).newest.chain.blocks + k ≡ l.chain.blocks
  back-blocks zero l ls h are = omega arith
  back-blocks (suc k) l [] h are = absurd (omega (arith, h))
  back-blocks (suc k) l (m ∷ ls) h are = let e = back-blocks k m ls (omega (arith, h)) are.3 in omega (arith, e, are.0)

-- ---- one event, and all of a list

module _ (H : List ℕ → Digest) where
  pub next_kept : (s : NodeState) (e : ChainEvent) → length (next_node H s e).older ≡ kept_after (Some (node_verdict H s e)) (length s.older)
  next_kept s (BlockCame None handed) = refl
  next_kept s (BlockCame (Some b) handed) = by (node_refusal H s b handed)
    where
      by : (x : Option Refusal) →
          length (node_by x (node_with H s b handed) s).older
          ≡ kept_after (Some (verdict_by s.newest.chain b (length (new_records b s.newest.chain.blocks)) x)) (length s.older)
      by None = length-take 100 (s.newest ∷ s.older)
      by (Some why) = refl
  next_kept s (RollbackCame k) = by_test (nat_le k (length s.older)) refl
    where
      by_test : (t : Bool) → nat_le k (length s.older) ≡ t
          → length (next_node H s (RollbackCame k)).older ≡ kept_after (Some (node_verdict H s (RollbackCame k))) (length s.older)
      by_test true e = rw e (back-kept s.rules s.scripts k s.newest s.older (leb-true k (length s.older) e))
      by_test false e = rw e refl
  next_kept s StrayCame = refl

  pub kept_throughout : (s : NodeState) (events : List ChainEvent)
      → length (node_after H s events).older ≡ kept_by (verdicts_on H s events) (length s.older)
  kept_throughout s [] = refl
  kept_throughout s (e ∷ es) = kept_throughout (next_node H s e) es ∙ ap (kept_by (verdicts_on H (next_node H s e) es)) (next_kept s e)

  pub levels_told : (s : NodeState) (e : ChainEvent) → IsNode s → LevelsTold s (node_verdict H s e) (next_node H s e)
  levels_told s (BlockCame None handed) is = (refl, refl)
  levels_told s (BlockCame (Some b) handed) is = by (node_refusal H s b handed)
    where
      by : (x : Option Refusal) → LevelsTold s (verdict_by s.newest.chain b (length (new_records b s.newest.chain.blocks)) x)
          (node_by x (node_with H s b handed) s)
      by None = (refl, refl, refl)
      by (Some why) = (refl, refl)
  levels_told s (RollbackCame k) is = by_test (nat_le k (length s.older)) refl
    where
      by_test : (t : Bool) → nat_le k (length s.older) ≡ t → LevelsTold s (node_verdict H s (RollbackCame k)) (next_node H s (RollbackCame k))
      by_test true e =
          let few = leb-true k (length s.older) e in
          rw e (
            few,
            back-drops s.rules s.scripts k s.newest s.older few,
            back-blocks s.rules s.scripts k s.newest s.older few is.older,
            refl,
            refl,
            refl,
          )
      by_test false e = let many = leb-false k (length s.older) e in rw e (refl, many, refl)
  levels_told s StrayCame is = refl

-- what holds of the verdict on each event and of what is kept then holds of what a step answers and leaves. The equation only names the event
pub stepped : {E : Type 0} (H : List ℕ → Digest) (P : Verdict → NodeState → Type 0) (s s' : NodeState) (event : Event)
    (e : ChainEvent) (result : Result Verdict E) → event_in (event_of event) ≡ e →
    ((x : ChainEvent) → P (node_verdict H s x) (next_node H s x)) → IfOk result (λ v. v ≡ node_verdict H s e)
    → OnOk result (s' ≡ next_node H s e) → IfOk result (λ v. P v s')
stepped H P s s' event e (Ok v) same p said next = subst (λ x. P x s') (sym said) (subst (P (node_verdict H s e)) (sym next) (p e))
stepped H P s s' event e (Err fault) same p said next = tt
