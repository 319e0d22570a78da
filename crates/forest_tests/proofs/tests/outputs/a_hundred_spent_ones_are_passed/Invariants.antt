use Rattle.output_index.specs.Held.{IsAbove}
use Rattle.forest_tests.proofs.tests.outputs.a_hundred_spent_ones_are_passed.Given as goal

abbrev pub invariant-loop-number : goal.invariant-loop-number
invariant-loop-number g l = IsAbove l.number l.outputs
