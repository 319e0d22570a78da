use Rattle.std.proofs.Common.{get_or}
use Rattle.forest_place.proofs.Positions.{row_small}
use Rattle.proof_shape.proofs.Ordered.{has_at}
use Rattle.proof_shape.proofs.sweep.parents_of.Goals as goal

pub parent-requires : goal.parent-requires
parent-requires c =
    let p = get_or c.args.places.now c.loop-place.place-index (record { row = 0; off = 0 }) in
    row_small c.args.n p.row p.off 40 (c.requires.within p.row p.off
    (has_at c.args.places.now c.loop-place.place-index (record { row = 0; off = 0 }) c.loop-place-test.true)) c.requires.small
