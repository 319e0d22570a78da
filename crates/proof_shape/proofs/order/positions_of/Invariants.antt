use Rattle.std.proofs.Common.{◌≡◌, take}
use Rattle.forest_place.specs.Position.{positions_of}
use Rattle.proof_shape.proofs.order.positions_of.Given as goal

abbrev pub invariant-loop-place : goal.invariant-loop-place
invariant-loop-place l = l.positions.items ≡ positions_of l.n (take l.place-index l.places)
