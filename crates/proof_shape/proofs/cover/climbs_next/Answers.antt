use Rattle.std.proofs.Common.{arith}
use Rattle.forest_place.specs.Places.{place_in}
use Rattle.proof_shape.proofs.Ordered.{has_at}
use Rattle.proof_shape.proofs.cover.climbs_next.Goals as goal

pub above-requires-clause-within : goal.above-requires-clause-within
above-requires-clause-within c =
    let p = place_in c.args.places.now c.args.k in
    c.requires.within p.row p.off (has_at c.args.places.now c.args.k (record { row = 0; off = 0 }) (omega (arith, c.if-k-places.false)))
