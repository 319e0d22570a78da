use Rattle.std.proofs.Common.{◌≡◌, true, ◌+◌, ◌-◌, ◌^◌, length}
use Rattle.proof_shape.specs.Swept.{IsSweep, AreFree}
use Rattle.proof_shape.proofs.cover.cover_of.Given as goal

abbrev pub invariant-loop-k : goal.invariant-loop-k
invariant-loop-k l = record {
  sweep : IsSweep l.n l.sorted l.covered.items l.k l.j;
  free : l.free ≡ true → AreFree l.n l.sorted l.covered.items l.j;
}

abbrev pub decreases-loop-k : goal.decreases-loop-k
decreases-loop-k l = (2 ^ 41 - l.k) + (length l.sorted - l.j)
