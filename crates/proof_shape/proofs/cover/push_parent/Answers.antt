use Rattle.std.proofs.Common.{◌≡◌, sym, subst, true}
use Rattle.forest_place.specs.declared.place.Place.{Place}
use Rattle.proof_shape.specs.Survey.{has}
use Rattle.proof_shape.proofs.Ordered.{has_at}
use Rattle.proof_shape.proofs.cover.push_parent.Goals as goal

pub above-requires-clause-within : goal.above-requires-clause-within
above-requires-clause-within c =
    let p = c.index-place.result.now in
    let there = subst (λ (x : Place). has c.args.places.now.items x ≡ true) (sym c.index-place.ensures)
    (has_at c.args.places.now.items c.args.k p c.requires.index) in
    c.requires.within p.row p.off there
