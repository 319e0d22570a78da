use Rattle.std.proofs.Common.{◌∙◌, sym, subst}
use Rattle.std.specs.List.Sorted.{IsNonDecreasing, IsPermutation}
use Rattle.forest_place.specs.Position.{positions_of}
use Rattle.proof_shape.proofs.paths.paths_over.Goals as goal

pub covered_places-requires-clause-sorted : goal.covered_places-requires-clause-sorted
covered_places-requires-clause-sorted c = subst IsNonDecreasing (sym c.deref-3.ensures.value) c.in_ok-sorted.ensures.sorted

pub covered_places-requires-clause-same : goal.covered_places-requires-clause-same
covered_places-requires-clause-same c =
    let n = c.args.n in
    subst (λ l. IsPermutation (positions_of n l) c.deref-3.result.now) (c.deref.ensures.value ∙ sym c.deref-2.ensures.value)
    (subst (IsPermutation (positions_of n c.deref.result.now)) (sym c.deref-3.ensures.value) c.in_ok-sorted.ensures.same)
