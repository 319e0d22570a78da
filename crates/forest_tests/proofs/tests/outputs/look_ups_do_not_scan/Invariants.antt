use Rattle.output_index.specs.Held.{IsAbove}
use Rattle.forest_tests.proofs.tests.outputs.look_ups_do_not_scan.Given as goal

abbrev pub invariant-loop-number : goal.invariant-loop-number
invariant-loop-number g l = IsAbove l.number l.outputs
