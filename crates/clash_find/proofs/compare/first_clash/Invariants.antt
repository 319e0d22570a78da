use Rattle.std.proofs.Common.{ℕ, ◌<◌, get_or, None}
use Rattle.proof_verify.specs.declared.evaluation.CoveredPlace.{CoveredPlace}
use Rattle.clash_find.specs.Searched.{IsCompared}
use Rattle.clash_find.proofs.compare.first_clash.Given as goal

abbrev pub invariant-loop-item : goal.invariant-loop-item
invariant-loop-item g l = (i : ℕ) (d : CoveredPlace) → i < l.item-index
    → IsCompared g.D.Digester.digest_of l.forest.entries l.outputs l.leaves (get_or l.items i d) None
