use Rattle.std.proofs.Common.{◌<◌, length, ap, arith, rules}
use Rattle.live_forest.specs.declared.spots.Spot.{Spot}
use Rattle.live_forest.specs.Sets.{is_bit}
use Rattle.live_forest.proofs.Landing.{spot_within}
use Rattle.live_forest.proofs.Telling.{listed_few}
use Rattle.live_forest.proofs.page.digest_of.Goals as goal

pub bounds-cells-spot : goal.bounds-cells-spot
bounds-cells-spot c =
    let cell = ap (λ (s : Spot). s.cell) c.spot_of-spot.ensures in
    let inside = spot_within (is_bit c.args.listed) (listed_few c.args.listed c.ranges.listed.fits) c.args.row c.args.off c.requires.some in
    omega (arith, cell, inside, c.requires.full)

pub offset_bounds-cells-spot : goal.offset_bounds-cells-spot
offset_bounds-cells-spot c =
    let cell = ap (λ (s : Spot). s.cell) c.spot_of-spot.ensures in
    let inside = spot_within (is_bit c.args.listed) (listed_few c.args.listed c.ranges.listed.fits) c.args.row c.args.off c.requires.some in
    let within : c.spot_of-spot.result.cell < length c.args.cells.now = omega (arith, cell, inside, c.requires.full) in
    search rules
