use Rattle.proof_verify.specs.NewPlaces.{AreFirst}
use Rattle.proof_verify.proofs.new_place.first_new_places.Given as goal

abbrev pub invariant-loop-i : goal.invariant-loop-i
invariant-loop-i l = AreFirst l.new_places l.i l.firsts.items
