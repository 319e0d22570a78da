use Rattle.std.proofs.Common.{◌≡◌, ℕ, ◌<◌, false}
use Rattle.forest_place.specs.Places.{place_in}
use Rattle.proof_shape.specs.Found.{crosses}
use Rattle.proof_shape.proofs.wrong.first_crossing.Given as goal

abbrev pub invariant-loop-j : goal.invariant-loop-j
invariant-loop-j l = (k : ℕ) → k < l.j → crosses (place_in l.places l.i) (place_in l.places k) ≡ false
