use Rattle.std.proofs.Common.{◌≡◌, ℕ, ◌<◌, ◌≤◌, true, length, drop, get_or}
use Rattle.output_index.specs.Held.{is_live}
use Rattle.bridge_prover.specs.Own.{spent_in}
use Rattle.bridge_prover.proofs.held.spend_all.Given as goal

abbrev pub invariant-loop-number : goal.invariant-loop-number
invariant-loop-number l = record {
  same : spent_in (drop l.number-index l.numbers) l.outputs ≡ spent_in l.numbers l.initial.outputs;
  live : (k : ℕ) → l.number-index ≤ k → k < length l.numbers → is_live (get_or l.numbers k 0) l.outputs ≡ true;
}
