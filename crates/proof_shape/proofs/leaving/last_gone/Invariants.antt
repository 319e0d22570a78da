use Rattle.std.proofs.Common.{◌≤◌, length}
use Rattle.proof_shape.proofs.Ends.{EndAlike}
use Rattle.proof_shape.proofs.leaving.last_gone.Given as goal

abbrev pub invariant-loop-i : goal.invariant-loop-i
invariant-loop-i l = record {
  low : l.i ≤ length l.covered;
  kept_low : l.j ≤ length l.kept;
  ends : EndAlike l.covered l.kept l.i l.j;
}

abbrev pub decreases-loop-i : goal.decreases-loop-i
decreases-loop-i l = l.i
