use Rattle.std.proofs.Common.{◌≡◌, ◌-◌, ◌++◌}
use Rattle.cache_model.specs.Climbed.{beside_way}
use Rattle.leaf_cache.proofs.proof.beside_way.Given as goal

abbrev pub invariant-loop-place : goal.invariant-loop-place
invariant-loop-place l = l.proof.items ++ beside_way (40 - l.place.row) l.held l.place.row l.place.off
    ≡ beside_way (40 - l.fn.from.row) l.held l.fn.from.row l.fn.from.off

abbrev pub decreases-loop-place : goal.decreases-loop-place
decreases-loop-place l = 40 - l.place.row
