use Rattle.std.proofs.Common.{ℕ, sym, ap, ap₂, ◌∙◌, subst}
use Rattle.std.specs.List.Sorted.{IsNonDecreasing}
use Rattle.forest_place.specs.Forest.{is_root}
use Rattle.forest_place.specs.Position.{position}
use Rattle.proof_shape.proofs.Needing.{rises_sorted}
use Rattle.cache_update.proofs.Bracketed.{known_there, known_root, known_beside, known_before, known_apart}
use Rattle.cache_update.proofs.known.known_near.Goals as goal

pub index_near-at-requires : goal.index_near-at-requires
index_near-at-requires c = subst IsNonDecreasing (sym c.covered.ensures.positions)
    (rises_sorted c.args.kept.now.leaves c.covered.result.0.now c.covered.ensures.is.rises)

pub returns-then-is_apart : goal.returns-then-is_apart
returns-then-is_apart c =
    known_apart c.args.kept.now.leaves c.args.kept.now.targets c.covered.result.0.now c.covered.result.1.now c.args.place c.position-number.result
    c.args.near
    (c.position-number.ensures.is ∙ ap (λ (n : ℕ). position n c.args.place.row c.args.place.off) c.leaves-n.ensures.is) c.covered.ensures.is
    c.covered.ensures.positions c.requires
    c.if-is_apart.ensures.0 c.if-is_apart.ensures.1 c.if-is_apart.ensures.2

pub returns-then-stands_at : goal.returns-then-stands_at
returns-then-stands_at c =
    known_there c.args.kept.now.leaves c.args.kept.now.targets c.covered.result.0.now c.covered.result.1.now c.args.place c.position-number.result
    c.index_near-at.result
    (c.position-number.ensures.is ∙ ap (λ (n : ℕ). position n c.args.place.row c.args.place.off) c.leaves-n.ensures.is) c.covered.ensures.is
    c.covered.ensures.positions c.requires c.if-stands_at.ensures.there.0 c.if-stands_at.ensures.there.1

pub returns-then-is_root : goal.returns-then-is_root
returns-then-is_root c =
    known_root c.args.kept.now.leaves c.args.kept.now.targets c.covered.result.0.now c.covered.result.1.now c.args.place c.position-number.result
    c.index_near-at.result
    (c.position-number.ensures.is ∙ ap (λ (n : ℕ). position n c.args.place.row c.args.place.off) c.leaves-n.ensures.is) c.covered.ensures.is
    c.covered.ensures.positions c.requires c.index_near-at.ensures c.if-stands_at.ensures.other
    (ap (λ (n : ℕ). is_root n c.args.place.row c.args.place.off) (sym c.leaves-n.ensures.is) ∙ (sym c.is_root.ensures ∙ c.if-is_root.true))

pub returns-then-stands_at-2 : goal.returns-then-stands_at-2
returns-then-stands_at-2 c =
    known_beside c.args.kept.now.leaves c.args.kept.now.targets c.covered.result.0.now c.covered.result.1.now c.args.place c.position-number.result
    c.index_near-at.result
    (c.position-number.ensures.is ∙ ap (λ (n : ℕ). position n c.args.place.row c.args.place.off) c.leaves-n.ensures.is) c.covered.ensures.is
    c.covered.ensures.positions c.requires c.index_near-at.ensures c.if-stands_at.ensures.other
    (ap (λ (n : ℕ). is_root n c.args.place.row c.args.place.off) (sym c.leaves-n.ensures.is) ∙ (sym c.is_root.ensures ∙ c.if-is_root.false))
    c.position-beside.result (c.position-beside.ensures.is ∙ (ap (λ (n : ℕ). position n c.sibling.result.row c.sibling.result.off)
    c.leaves-n.ensures.is ∙ ap₂ (λ (r o : ℕ). position c.args.kept.now.leaves r o) c.sibling.ensures.row c.sibling.ensures.off))
    c.index_near-at.result c.if-stands_at-2.ensures.there.0 c.if-stands_at-2.ensures.there.1

pub returns : goal.returns
returns c =
    known_before c.args.kept.now.leaves c.args.kept.now.targets c.covered.result.0.now c.covered.result.1.now c.args.place c.position-number.result
    c.index_near-at.result
    (c.position-number.ensures.is ∙ ap (λ (n : ℕ). position n c.args.place.row c.args.place.off) c.leaves-n.ensures.is) c.covered.ensures.is
    c.covered.ensures.positions c.requires c.index_near-at.ensures c.if-stands_at.ensures.other
    (ap (λ (n : ℕ). is_root n c.args.place.row c.args.place.off) (sym c.leaves-n.ensures.is) ∙ (sym c.is_root.ensures ∙ c.if-is_root.false))
    c.position-beside.result (c.position-beside.ensures.is ∙ (ap (λ (n : ℕ). position n c.sibling.result.row c.sibling.result.off)
    c.leaves-n.ensures.is ∙ ap₂ (λ (r o : ℕ). position c.args.kept.now.leaves r o) c.sibling.ensures.row c.sibling.ensures.off))
    c.stands_before.result c.if-stands_at-2.ensures.other c.stands_before.ensures.there c.stands_before.ensures.other
