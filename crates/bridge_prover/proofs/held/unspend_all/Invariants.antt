use Rattle.std.proofs.Common.{◌≡◌, ℕ, ◌<◌, ◌≤◌, true, length, drop, get_or}
use Rattle.output_index.specs.Held.{is_spent}
use Rattle.bridge_prover.specs.Own.{unspent_in}
use Rattle.bridge_prover.proofs.held.unspend_all.Given as goal

abbrev pub invariant-loop-number : goal.invariant-loop-number
invariant-loop-number l = record {
  same : unspent_in (drop l.number-index l.numbers) l.outputs ≡ unspent_in l.numbers l.initial.outputs;
  spent : (k : ℕ) → l.number-index ≤ k → k < length l.numbers → is_spent (get_or l.numbers k 0) l.outputs ≡ true;
}
