use Rattle.proof_shape.proofs.Needing.{positions_are, cover_from_sweep}
use Rattle.proof_shape.proofs.Freed.{shape_from_free}
use Rattle.proof_shape.proofs.sweep.covered_places.Goals as goal

pub cover_of-requires-clause-places : goal.cover_of-requires-clause-places
cover_of-requires-clause-places c = positions_are c.args.n c.args.places.now c.args.sorted.now c.requires.within c.requires.same

pub returns-clause-covered : goal.returns-clause-covered
returns-clause-covered c =
    cover_from_sweep c.args.n c.args.places.now c.args.sorted.now c.in_ok-covered.covered.items c.requires.within c.requires.same
    c.in_ok-covered.ensures.swept

pub returns-clause-shape : goal.returns-clause-shape
returns-clause-shape c = λ t.
    shape_from_free c.args.n c.args.places.now c.args.sorted.now c.in_ok-covered.covered.items c.requires.within c.requires.same
    c.in_ok-covered.ensures.swept (c.in_ok-covered.ensures.free t)
