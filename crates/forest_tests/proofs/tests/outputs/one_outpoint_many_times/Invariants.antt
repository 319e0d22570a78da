use Rattle.std.proofs.Common.{◌-◌}
use Rattle.output_index.specs.Held.{IsAbove}
use Rattle.forest_tests.proofs.tests.outputs.one_outpoint_many_times.Given as goal

abbrev pub invariant-loop-number : goal.invariant-loop-number
invariant-loop-number g l = IsAbove l.number l.outputs

abbrev pub invariant-loop-taken : goal.invariant-loop-taken
invariant-loop-taken g l = IsAbove (1010 - l.taken) l.outputs
