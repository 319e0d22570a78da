use Rattle.std.proofs.Common.{◌≡◌, take, filter_map}
use Rattle.proof_shape.specs.Survey.{needed_beside}
use Rattle.proof_shape.proofs.need.needed_of.Given as goal

abbrev pub invariant-loop-m : goal.invariant-loop-m
invariant-loop-m l = l.needed.items ≡ filter_map (needed_beside l.n l.covered) (take l.m l.covered)
