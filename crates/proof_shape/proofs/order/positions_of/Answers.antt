use Rattle.std.proofs.Common.{get_or}
use Rattle.proof_shape.proofs.Ordered.{has_at}
use Rattle.proof_shape.proofs.order.positions_of.Goals as goal

pub position-requires-clause-within : goal.position-requires-clause-within
position-requires-clause-within c =
    let p = get_or c.args.places.now c.loop-place.place-index (record { row = 0; off = 0 }) in
    c.requires.within p.row p.off (has_at c.args.places.now c.loop-place.place-index (record { row = 0; off = 0 }) c.loop-place-test.true)
