use Rattle.std.proofs.Common.{◌≡◌, ◌+◌, ◌*◌, ◌^◌, ◌≤◌, length, sum_by}
use Rattle.block_rules.proofs.sums.output_sum.Given as goal

abbrev pub invariant-loop-output : goal.invariant-loop-output
invariant-loop-output l = record {
  sum : l.sum + sum_by (λ output. output.amount) l.output-iterator ≡ sum_by (λ output. output.amount) l.fn.tx.outputs;
  few : length l.yielded + length l.output-iterator ≡ length l.fn.tx.outputs;
  bound : l.sum ≤ 2 ^ 64 * length l.yielded;
}
