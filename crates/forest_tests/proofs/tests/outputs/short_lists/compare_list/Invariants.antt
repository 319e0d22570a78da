use Rattle.std.proofs.Common.{vec_len}
use Rattle.output_index.specs.Held.{IsAbove}
use Rattle.forest_tests.proofs.tests.outputs.short_lists.compare_list.Given as goal

abbrev pub invariant-loop-called : goal.invariant-loop-called
invariant-loop-called g l = IsAbove (vec_len l.plain) l.outputs
