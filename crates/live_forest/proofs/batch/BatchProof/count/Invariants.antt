use Rattle.std.proofs.Common.{◌≡◌, ◌^◌, ◌<◌, length, take}
use Rattle.std.specs.List.{flat_map}
use Rattle.live_forest.proofs.batch.BatchProof.count.Given as goal

abbrev pub invariant-loop-row : goal.invariant-loop-row
invariant-loop-row l = length (flat_map (λ row. row) (take l.row-index l.row-items)) < 2 ^ 64
    → l.count ≡ length (flat_map (λ row. row) (take l.row-index l.row-items))
