use Rattle.std.proofs.Common.{◌≡◌, ◌≤◌, ◌-◌}
use Rattle.forest_place.specs.Forest.{InForest}
use Rattle.live_forest.specs.Sets.{is_bit}
use Rattle.live_forest.specs.Pages.{spot}
use Rattle.live_forest.proofs.spots.spot_of.Given as goal

abbrev pub invariant-rows : goal.invariant-rows
invariant-rows l =
    (l.part.row ≤ 7) × InForest 128 l.part.row l.part.off × (spot (is_bit l.listed) l.row l.off ≡ spot (is_bit l.listed) l.part.row l.part.off)

abbrev pub decreases-rows : goal.decreases-rows
decreases-rows l = 7 - l.part.row
