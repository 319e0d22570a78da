use Rattle.std.proofs.Common.{◌≡◌, ◌≤◌}
use Rattle.bridge_prover.specs.Own.{cut_in}
use Rattle.bridge_prover.proofs.held.cut.Given as goal

abbrev pub invariant-loop-last : goal.invariant-loop-last
invariant-loop-last l = record {
  low : l.n ≤ l.last;
  high : l.last ≤ l.end;
  left : l.outputs ≡ cut_in l.last l.initial.outputs;
}

abbrev pub decreases-loop-last : goal.decreases-loop-last
decreases-loop-last l = l.last
