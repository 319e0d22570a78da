use Rattle.std.proofs.Common.{◌≡◌, take, map}
use Rattle.forest_place.specs.Places.{up}
use Rattle.proof_shape.proofs.sweep.parents_of.Given as goal

abbrev pub invariant-loop-place : goal.invariant-loop-place
invariant-loop-place l = l.parents.items ≡ map up (take l.place-index l.places)
