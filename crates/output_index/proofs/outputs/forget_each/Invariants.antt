use Rattle.std.proofs.Common.{◌≡◌, ℕ, ◌<◌, ◌≤◌, true, false, length, drop, get_or}
use Rattle.output_index.specs.Held.{is_spent, without_all}
use Rattle.output_index.specs.Forgetting.{IsToForget}
use Rattle.output_index.proofs.outputs.forget_each.Given as goal

abbrev pub invariant-loop-at : goal.invariant-loop-at
invariant-loop-at l = record {
  same : without_all (drop l.at l.numbers) l.outputs ≡ without_all l.numbers l.initial.outputs;
  spent : (k : ℕ) → l.at ≤ k → k < length l.numbers → is_spent (get_or l.numbers k 0) l.outputs ≡ true;
  known : (k : ℕ) → l.at ≤ k → k < length l.numbers
      → IsToForget l.outputs (get_or l.numbers k 0) (get_or l.known k (record { mark = 0; alone = false }));
  len : length l.known ≡ length l.numbers;
}
