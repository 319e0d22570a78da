use Rattle.proof_verify.specs.NewPlaces.{AreFoundPlaces}
use Rattle.proof_verify.proofs.new_place.all_new_places.Given as goal

abbrev pub invariant-loop-from : goal.invariant-loop-from
invariant-loop-from l = AreFoundPlaces l.n l.sources l.destinations l.from l.new_places.items
