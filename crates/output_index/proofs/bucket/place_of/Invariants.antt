use Rattle.std.proofs.Common.{◌≡◌, None, take}
use Rattle.output_index.specs.Buckets.{in_cells}
use Rattle.output_index.proofs.bucket.place_of.Given as goal

abbrev pub invariant-loop-at : goal.invariant-loop-at
invariant-loop-at l = in_cells (take l.at l.cells) l.mark ≡ None
