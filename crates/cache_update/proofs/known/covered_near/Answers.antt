use Rattle.std.proofs.Common.{ℕ, sym, ap, ◌∙◌, subst}
use Rattle.std.specs.List.Sorted.{IsNonDecreasing}
use Rattle.forest_place.specs.Position.{position}
use Rattle.proof_shape.proofs.Needing.{rises_sorted}
use Rattle.cache_update.proofs.Bracketed.{tells_there, tells_absent}
use Rattle.cache_update.proofs.known.covered_near.Goals as goal

pub index_near-at-requires : goal.index_near-at-requires
index_near-at-requires c = subst IsNonDecreasing (sym c.covered.ensures.positions)
    (rises_sorted c.args.targets.now.leaves c.covered.result.0.now c.covered.ensures.is.rises)

pub returns-then-stands_at : goal.returns-then-stands_at
returns-then-stands_at c =
    tells_there c.args.targets.now.leaves c.args.targets.now.targets c.covered.result.0.now c.covered.result.1.now c.args.place
    c.position-number.result c.index_near-at.result
    (c.position-number.ensures.is ∙ ap (λ (n : ℕ). position n c.args.place.row c.args.place.off) c.leaves-n.ensures.is) c.covered.ensures.is
    c.covered.ensures.positions c.requires c.if-stands_at.ensures.there.0 c.if-stands_at.ensures.there.1

pub returns-else-stands_at : goal.returns-else-stands_at
returns-else-stands_at c =
    tells_absent c.args.targets.now.leaves c.args.targets.now.targets c.covered.result.0.now c.covered.result.1.now c.args.place
    c.position-number.result c.index_near-at.result
    (c.position-number.ensures.is ∙ ap (λ (n : ℕ). position n c.args.place.row c.args.place.off) c.leaves-n.ensures.is) c.covered.ensures.is
    c.covered.ensures.positions c.requires c.index_near-at.ensures c.if-stands_at.ensures.other
