use Rattle.forest_place.proofs.Positions.{row_small}
use Rattle.forest_place.specs.Places.{place_in}
use Rattle.proof_shape.proofs.Ordered.{has_at}
use Rattle.proof_shape.proofs.Longer.{crossing_from}
use Rattle.proof_shape.proofs.wrong.fault_at.Goals as goal

pub first_crossing-requires-clause-low : goal.first_crossing-requires-clause-low
first_crossing-requires-clause-low c = λ k h.
    let p = place_in c.args.places.now k in
    row_small c.args.n p.row p.off 40 (c.requires.within p.row p.off (has_at c.args.places.now k (record { row = 0; off = 0 }) h)) c.requires.small

pub first_crossing-requires-clause-some : goal.first_crossing-requires-clause-some
first_crossing-requires-clause-some c = crossing_from c.args.n c.args.places.now c.args.i c.requires.within c.requires.index c.requires.sound
    c.in-None.ensures c.requires.wrong
