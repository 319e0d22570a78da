use Rattle.std.proofs.Common.{◌≡◌, ◌<◌, true, false, sym, ap, ◌∙◌, subst, arith}
use Rattle.forest_place.specs.Position.{position}
use Rattle.forest_place.proofs.Positions.{row_small}
use Rattle.proof_shape.specs.Shape.{has_number}
use Rattle.proof_shape.specs.Found.{IsPast}
use Rattle.proof_shape.proofs.Climbing.{climb_begins, climb_finds, climb_goes_on, climb_passes, climb_ends, in_next}
use Rattle.proof_shape.proofs.above.is_beneath_one.Goals as goal

pub parent-above-requires : goal.parent-above-requires
parent-above-requires c = row_small c.args.n c.loop-above.above.row c.loop-above.above.off 40 c.loop-above.invariant.within c.requires.small

pub position-number-requires-clause-within : goal.position-number-requires-clause-within
position-number-requires-clause-within c =
    in_next c.args.n c.args.sorted.now c.args.place c.loop-above.above c.parent-above.result c.loop-above.invariant
    (sym c.is_root.ensures ∙ c.loop-above-test.true) c.parent-above.ensures.row c.parent-above.ensures.off

pub returns-then-is_past : goal.returns-then-is_past
returns-then-is_past c =
    climb_passes c.args.n c.args.sorted.now c.args.place c.loop-above.above c.parent-above.result c.loop-above.invariant
    (sym c.is_root.ensures ∙ c.loop-above-test.true) c.parent-above.ensures.row c.parent-above.ensures.off
    (subst (IsPast c.args.sorted.now) c.position-number.ensures.is (c.is_past.ensures c.if-is_past.true))

pub returns-then-contains : goal.returns-then-contains
returns-then-contains c =
    let there : has_number c.args.sorted.now (position c.args.n c.parent-above.result.row c.parent-above.result.off) ≡ true =
    ap (has_number c.args.sorted.now) (sym c.position-number.ensures.is) ∙ (sym c.contains.ensures ∙ c.if-contains.true) in
    climb_finds c.args.n c.args.sorted.now c.args.place c.loop-above.above c.parent-above.result c.loop-above.invariant
    (sym c.is_root.ensures ∙ c.loop-above-test.true) c.parent-above.ensures.row c.parent-above.ensures.off there

pub loop-above-smaller : goal.loop-above-smaller
loop-above-smaller c =
    let small : c.loop-above.above.row < 40 =
    row_small c.args.n c.loop-above.above.row c.loop-above.above.off 40 c.loop-above.invariant.within c.requires.small in
    omega (arith, small, c.parent-above.ensures.row)

pub loop-above-preserved : goal.loop-above-preserved
loop-above-preserved c =
    let none : has_number c.args.sorted.now (position c.args.n c.parent-above.result.row c.parent-above.result.off) ≡ false =
    ap (has_number c.args.sorted.now) (sym c.position-number.ensures.is) ∙ (sym c.contains.ensures ∙ c.if-contains.false) in
    climb_goes_on c.args.n c.args.sorted.now c.args.place c.loop-above.above c.parent-above.result c.loop-above.invariant
    (sym c.is_root.ensures ∙ c.loop-above-test.true) c.parent-above.ensures.row c.parent-above.ensures.off none

pub loop-above-init : goal.loop-above-init
loop-above-init c = climb_begins c.args.n c.args.sorted.now c.args.place c.requires.within

pub returns : goal.returns
returns c = climb_ends c.args.n c.args.sorted.now c.args.place c.loop-above.above c.loop-above.invariant
    (sym c.is_root.ensures ∙ c.loop-above-test.false)
