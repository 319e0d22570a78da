use Rattle.proof_verify.specs.Destinations.{AreMarked}
use Rattle.proof_verify.proofs.destinations.mark_gone.Given as goal

abbrev pub invariant-loop-i : goal.invariant-loop-i
invariant-loop-i l = AreMarked l.sources l.i l.gone
