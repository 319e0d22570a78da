use Rattle.std.proofs.Common.{◌≡◌, ℕ, ◌<◌}
use Rattle.forest_place.specs.Places.{place_in}
use Rattle.proof_shape.proofs.wrong.first_equal.Given as goal

abbrev pub invariant-loop-j : goal.invariant-loop-j
invariant-loop-j l = (k : ℕ) → k < l.j → place_in l.places k ≡ place_in l.places l.i → ⊥
