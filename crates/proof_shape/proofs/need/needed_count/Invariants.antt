use Rattle.std.proofs.Common.{◌≡◌, ◌≤◌, length, take, filter_map}
use Rattle.proof_shape.specs.Survey.{needed_beside}
use Rattle.proof_shape.proofs.need.needed_count.Given as goal

abbrev pub invariant-loop-i : goal.invariant-loop-i
invariant-loop-i l = (l.count ≡ length (filter_map (needed_beside l.n l.covered) (take l.i l.covered))) × (l.count ≤ l.i)
