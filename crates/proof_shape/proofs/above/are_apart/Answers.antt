use Rattle.std.proofs.Common.{get_or}
use Rattle.proof_shape.proofs.Ordered.{has_at}
use Rattle.proof_shape.proofs.above.are_apart.Goals as goal

pub is_beneath_one-requires-clause-within : goal.is_beneath_one-requires-clause-within
is_beneath_one-requires-clause-within c =
    let p = get_or c.args.places.now c.loop-place.place-index (record { row = 0; off = 0 }) in
    c.requires.within p.row p.off (has_at c.args.places.now c.loop-place.place-index (record { row = 0; off = 0 }) c.loop-place-test.true)
