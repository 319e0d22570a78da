use Rattle.std.proofs.Common.{◌≤◌, length}
use Rattle.proof_verify.specs.Destinations.{AreDestinations}
use Rattle.proof_verify.proofs.destinations.fill_destinations.Given as goal

abbrev pub invariant-loop-i : goal.invariant-loop-i
invariant-loop-i l = (l.i ≤ length l.covered) × AreDestinations l.n l.covered l.sources l.parents l.gone l.i l.destinations

abbrev pub decreases-loop-i : goal.decreases-loop-i
decreases-loop-i l = l.i
