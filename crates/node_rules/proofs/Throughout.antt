-- What a machine keeps from one event to the next it keeps throughout; and what holds of each level holds of those that are left.
use Rattle.std.proofs.Common.{◌≡◌, ℕ, zero, suc, List, [], ◌∷◌, length, Option, Some, None, refl, ⊎_elim}
use Rattle.std.specs.Prelude.{nat_le, take}
use Rattle.std.specs.List.{AllByRecursion}
use Rattle.std.proofs.lemmas.Bool.{cases_Bool}
use Rattle.block_codec.specs.Block.{Block}
use Rattle.block_rules.specs.declared.refusal.Refusal.{Refusal}
use Rattle.block_rules.specs.declared.verdict.Verdict.{Verdict}
use Rattle.node_rules.specs.Reading.{Handed}
use Rattle.node_rules.specs.Judging.{Rules, Evidence, refusal}
use Rattle.node_rules.specs.Machine.{ChainEvent, BlockCame, RollbackCame, StrayCame, Level, State, Judge, OnEachLevel, chain_of, level_after, pushed}
use Rattle.node_rules.specs.Machine.{by_refusal, by_evidence, back, step, goes_on, state_after}

-- I holds of each state, where of each event holds what is given
module _ (I : State → Type 0) (Given : ChainEvent → Type 0) (rules : Rules) (judge : Judge)
    (accepted : (s : State) (b : Block) (m : Handed) (e : Evidence) → Given (BlockCame (Some b) m) → I s → judge s.now b m ≡ Some e
    → refusal rules (chain_of s.now) b e ≡ None → I (pushed (level_after s.now b e) s))
    (gone_back : (k : ℕ) (s : State) → I s → I (back k s.now s.older)) where
  by_judge : (s : State) (b : Block) (m : Handed) → Given (BlockCame (Some b) m) → I s → (x : Option Evidence) → judge s.now b m ≡ x
      → I (by_evidence rules s b x).state
  by_judge s b m given h None j = h
  by_judge s b m given h (Some e) j = by_case (refusal rules (chain_of s.now) b e) refl
    where
      by_case : (x : Option Refusal) → refusal rules (chain_of s.now) b e ≡ x → I (by_refusal s b e x).state
      by_case (Some why) q = h
      by_case None q = accepted s b m e given h j q

  pub step_keeps : (s : State) (e : ChainEvent) → Given e → I s → I (step rules judge s e).state
  step_keeps s (BlockCame None m) given h = h
  step_keeps s (BlockCame (Some b) m) given h = by_judge s b m given h (judge s.now b m) refl
  step_keeps s (RollbackCame k) given h =
      ⊎_elim (λ t. rw t (gone_back k s h)) (λ t. rw t h) (cases_Bool (nat_le k (length s.older)))
  step_keeps s StrayCame given h = h

  pub after_keeps : (s : State) (es : List ChainEvent) → AllByRecursion Given es → I s → I (state_after rules judge s es)
  after_keeps s [] given h = h
  after_keeps s (e ∷ es) given h = by_verdict (step rules judge s e).verdict
      (after_keeps (step rules judge s e).state es given.1 (step_keeps s e given.0 h))
    where
      by_verdict : (v : Option Verdict) → I (state_after rules judge (step rules judge s e).state es)
          → I (goes_on v s (state_after rules judge (step rules judge s e).state es))
      by_verdict None k = h
      by_verdict (Some v) k = k

-- ---- levels

pub all_taken : (P : Level → Type 0) (k : ℕ) (ls : List Level) → AllByRecursion P ls → AllByRecursion P (take k ls)
all_taken P zero ls h = tt
all_taken P (suc k) [] h = tt
all_taken P (suc k) (l ∷ ls) h = (h.0, all_taken P k ls h.1)

pub each_back : (P : Level → Type 0) (k : ℕ) (l : Level) (ls : List Level) → P l → AllByRecursion P ls → OnEachLevel P (back k l ls)
each_back P zero l ls h hs = (h, hs)
each_back P (suc k) l [] h hs = (h, tt)
each_back P (suc k) l (m ∷ ms) h hs = each_back P k m ms hs.0 hs.1

-- where nothing is given
pub nothing_given : (es : List ChainEvent) → AllByRecursion (λ e. Unit {0}) es
nothing_given [] = tt
nothing_given (e ∷ es) = (tt, nothing_given es)
