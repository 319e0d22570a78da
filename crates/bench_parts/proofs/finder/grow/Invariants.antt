use Rattle.output_index.specs.Held.{IsAbove}
use Rattle.bench_parts.proofs.finder.grow.Given as goal

abbrev pub invariant-loop-number : goal.invariant-loop-number
invariant-loop-number g l = IsAbove l.number l.outputs
