use Rattle.std.proofs.Common.{◌≡◌, take}
use Rattle.std.specs.List.{AllByRecursion}
use Rattle.output_index.specs.Buckets.{bucket_of}
use Rattle.output_index.proofs.bucket.place_of_strange.Given as goal

abbrev pub invariant-loop-at : goal.invariant-loop-at
invariant-loop-at l = AllByRecursion (λ cell. bucket_of l.bits l.count cell.mark ≡ l.number) (take l.at l.cells)
