use Rattle.std.proofs.Common.{◌≡◌, ◌+◌, ◌*◌, ◌^◌, ◌≤◌, length, sum_by}
use Rattle.std.specs.List.{list_any}
use Rattle.block_rules.specs.Rules.{has_too_much}
use Rattle.block_rules.proofs.steps.has_value.Given as goal

abbrev pub invariant-loop-output : goal.invariant-loop-output
invariant-loop-output l = record {
  over : list_any has_too_much l.output-iterator ≡ list_any has_too_much l.fn.tx.outputs;
  sum : l.sum + sum_by (λ output. output.amount) l.output-iterator ≡ sum_by (λ output. output.amount) l.fn.tx.outputs;
  few : length l.yielded + length l.output-iterator ≡ length l.fn.tx.outputs;
  bound : l.sum ≤ 2 ^ 64 * length l.yielded;
}
