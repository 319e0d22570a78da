use Rattle.std.proofs.Common.{take}
use Rattle.proof_shape.proofs.Shapes.{AreApart}
use Rattle.proof_shape.proofs.above.are_apart.Given as goal

abbrev pub invariant-loop-place : goal.invariant-loop-place
invariant-loop-place l = AreApart l.n (take l.place-index l.places) l.sorted
