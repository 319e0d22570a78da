-- No level that a machine reaches has more entries than the limits allow.
use Rattle.std.proofs.Common.{◌≡◌, ◌∷◌, Some, None, arith}
use Rattle.block_codec.specs.Block.{Block}
use Rattle.block_rules.specs.Blocks.{new_records}
use Rattle.node_rules.specs.Judging.{Rules, Evidence, refusal}
use Rattle.node_rules.specs.Machine.{ChainEvent, State, Judge, chain_of}
use Rattle.node_rules.specs.Machine.{step, start, OnEachLevel, level_after, pushed}
use Rattle.node_rules.specs.Laws.{IsWithin}
use Rattle.node_rules.proofs.Fitting.{passes}
use Rattle.node_rules.proofs.Throughout.{all_taken, each_back, step_keeps}
use Rattle.node_rules.specs.Reading.{Handed}
use Rattle.node_rules.proofs.Running.{length-after}

module _ (rules : Rules) (judge : Judge) where
  grown_within : (s : State) (b : Block) (m : Handed) (e : Evidence) → Unit {0} → OnEachLevel (IsWithin rules) s → judge s.now b m ≡ Some e
      → refusal rules (chain_of s.now) b e ≡ None → OnEachLevel (IsWithin rules) (pushed (level_after s.now b e) s)
  grown_within s b m e given h j q =
      let new = new_records b s.now.blocks in
      let longer = length-after s.now.history e.numbers new in
      let room = (passes rules (chain_of s.now) b e q).room in
      (omega (arith, longer, room), all_taken (IsWithin rules) 100 (s.now ∷ s.older) h)

  pub step_within : (s : State) (e : ChainEvent) → OnEachLevel (IsWithin rules) s → OnEachLevel (IsWithin rules) (step rules judge s e).state
  step_within s e h =
      step_keeps (OnEachLevel (IsWithin rules)) (λ e. Unit {0}) rules judge grown_within
      (λ k s h. each_back (IsWithin rules) k s.now s.older h.0 h.1) s e tt h

-- that of the start has none
pub start_within : (rules : Rules) → OnEachLevel (IsWithin rules) start
start_within rules = (omega arith, tt)
