use Rattle.forest_place.specs.declared.place.Place.{Place}
use Rattle.proof_shape.proofs.Ordered.{has_at}
use Rattle.state_text.proofs.targets.positions_of.Goals as goal

pub position-requires-clause-within : goal.position-requires-clause-within
position-requires-clause-within c = let none : Place = record { row = 0; off = 0 } in
    c.requires.within _ _ (has_at c.args.places.now c.loop-i.i none c.loop-i-test.true)
