use Rattle.std.proofs.Common.{◌≡◌, length}
use Rattle.std.specs.List.{filter}
use Rattle.output_index.specs.Buckets.{is_own}
use Rattle.output_index.proofs.bucket.Bucket.keep_own.Given as goal

abbrev pub invariant-loop-at : goal.invariant-loop-at
invariant-loop-at l = filter (is_own l.bits l.count l.number) l.self-inside.cells.items ≡ filter (is_own l.bits l.count l.number) l.fn.self

abbrev pub decreases-loop-at : goal.decreases-loop-at
decreases-loop-at l = length l.self-inside.cells.items
