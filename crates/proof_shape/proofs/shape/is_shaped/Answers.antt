use Rattle.std.proofs.Common.{sym, subst, ◌∙◌}
use Rattle.std.specs.List.Sorted.{IsStrictlyIncreasing}
use Rattle.std.proofs.lemmas.Bool.{false≢true}
use Rattle.proof_shape.proofs.Shapes.{AreApart, shape_from_sorted, rising_from_shape, apart_from_shape}
use Rattle.proof_shape.proofs.shape.is_shaped.Goals as goal
use Rattle.proof_shape.proofs.shape.is_shaped.Goals.{then-rises, else-rises}

pub returns : goal.returns
returns c =
    let n = c.args.n in
    let ps = c.args.places.now in
    let ys = c.in_ok-sorted.sorted.items in
    let up = c.in_ok-sorted.ensures.sorted in
    let same = c.in_ok-sorted.ensures.same in
    elim c.if-rises.branch [
      | then-rises w ↦ (
        (λ t.
            shape_from_sorted n ps ys c.requires.within same
            (subst IsStrictlyIncreasing c.deref.ensures.value (c.rises.ensures.0 w.if-rises.true))
            (subst (AreApart n ps) w.deref-then-rises.ensures.value (w.are_apart.ensures.0 (sym w.result-is ∙ t)))),
        (λ s. w.result-is ∙ w.are_apart.ensures.1
            (subst (AreApart n ps) (sym w.deref-then-rises.ensures.value) (apart_from_shape n ps ys c.requires.within same s))),
      )
      | else-rises w ↦ (
        (λ t. absurd (false≢true (sym w.if-rises.false ∙ (sym w.result-is ∙ t)))),
        (λ s. w.result-is ∙ c.rises.ensures.1 (subst IsStrictlyIncreasing (sym c.deref.ensures.value)
            (rising_from_shape n ps ys c.requires.within same up s))),
      )
    ]
