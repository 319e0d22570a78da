use Rattle.std.proofs.Common.{◌≡◌, ◌++◌, drop, filter_map}
use Rattle.cache_model.specs.declared.kept.Kept.{Kept}
use Rattle.cache_update.specs.Begun.{new_position}
use Rattle.cache_update.proofs.block_room.new_positions.Given as goal

abbrev pub invariant-loop-i : goal.invariant-loop-i
invariant-loop-i l = filter_map (λ (k : Kept). new_position l.targets.leaves l.targets.targets k.place) l.kept ≡ l.positions.items
    ++ filter_map (λ (k : Kept). new_position l.targets.leaves l.targets.targets k.place) (drop l.i l.kept)
