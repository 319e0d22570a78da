use Rattle.output_index.specs.Held.{IsAbove}
use Rattle.bench_parts.proofs.outputs.insert_all.Given as goal

abbrev pub invariant-loop-number : goal.invariant-loop-number
invariant-loop-number l = IsAbove l.number l.outputs
