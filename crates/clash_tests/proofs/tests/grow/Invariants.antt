use Rattle.output_index.specs.Held.{IsAbove}
use Rattle.clash_tests.proofs.tests.grow.Given as goal

-- each number so far is below the next
abbrev pub invariant-loop-number : goal.invariant-loop-number
invariant-loop-number g l = IsAbove l.number l.outputs
