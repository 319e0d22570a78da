use Rattle.std.proofs.Common.{◌≡◌, sym, subst, ap, ◌∙◌}
use Rattle.std.specs.List.Sorted.{IsNonDecreasing, IsStrictlyIncreasing, IsPermutation}
use Rattle.std.proofs.lemmas.Result.{IfOk-weaker}
use Rattle.forest_place.specs.Position.{positions_of}
use Rattle.proof_shape.specs.Moves.{CoversTell}
use Rattle.proof_shape.specs.Swept.{ArePositions}
use Rattle.proof_shape.proofs.Needing.{rises_strictly, positions_placed, positions_tell}
use Rattle.proof_shape.proofs.sweep.covered_positions.Goals as goal

pub returns-clause-rises : goal.returns-clause-rises
returns-clause-rises c =
    let cs = c.in_ok-covered.covered.items in
    IfOk-weaker c.positions_of.result (λ v. v.items ≡ positions_of c.args.n c.deref-2.result.now) (λ v. IsStrictlyIncreasing v.items)
    (λ v e. subst IsStrictlyIncreasing (sym (e ∙ ap (positions_of c.args.n) c.deref-2.ensures.value))
    (rises_strictly c.args.n cs c.in_ok-covered.ensures.covered.rises))
    c.positions_of.ensures

pub returns-clause-places : goal.returns-clause-places
returns-clause-places c =
    let cs = c.in_ok-covered.covered.items in
    IfOk-weaker c.positions_of.result (λ v. v.items ≡ positions_of c.args.n c.deref-2.result.now) (λ v. ArePositions c.args.n v.items)
    (λ v e. subst (ArePositions c.args.n) (sym (e ∙ ap (positions_of c.args.n) c.deref-2.ensures.value))
    (positions_placed c.args.n cs c.in_ok-covered.ensures.covered.within))
    c.positions_of.ensures

pub returns-clause-tell : goal.returns-clause-tell
returns-clause-tell c =
    let cs = c.in_ok-covered.covered.items in
    IfOk-weaker c.positions_of.result (λ v. v.items ≡ positions_of c.args.n c.deref-2.result.now) (λ v. CoversTell c.args.n c.args.places.now v.items)
    (λ v e. subst (CoversTell c.args.n c.args.places.now) (sym (e ∙ ap (positions_of c.args.n) c.deref-2.ensures.value))
    (positions_tell c.args.n c.args.places.now cs c.in_ok-covered.ensures.covered))
    c.positions_of.ensures

pub covered_places-requires-clause-same : goal.covered_places-requires-clause-same
covered_places-requires-clause-same c =
    subst (IsPermutation (positions_of c.args.n c.args.places.now)) (sym c.deref.ensures.value) c.in_ok-sorted.ensures.same

pub covered_places-requires-clause-sorted : goal.covered_places-requires-clause-sorted
covered_places-requires-clause-sorted c = subst IsNonDecreasing (sym c.deref.ensures.value) c.in_ok-sorted.ensures.sorted
