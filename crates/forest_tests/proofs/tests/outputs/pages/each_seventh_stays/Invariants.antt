use Rattle.output_index.specs.Held.{IsAbove}
use Rattle.forest_tests.proofs.tests.outputs.pages.each_seventh_stays.Given as goal

abbrev pub invariant-loop-number : goal.invariant-loop-number
invariant-loop-number g l = IsAbove l.number l.outputs
