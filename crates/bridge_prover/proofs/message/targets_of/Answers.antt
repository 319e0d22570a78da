use Rattle.std.proofs.Common.{refl, arith}
use Rattle.forest_place.proofs.Positions.{places_low}
use Rattle.bridge_prover.proofs.Showing.{placed_within, targeted_more}
use Rattle.bridge_prover.proofs.message.targets_of.Goals as goal

pub fixed_position-requires-clause-row : goal.fixed_position-requires-clause-row
fixed_position-requires-clause-row g c =
    (places_low _ c.place_of-place.result.row c.place_of-place.result.off (omega (arith, c.leaves-leaves.ensures.few))
    (placed_within c.args.forest.now.entries _ _ c.place_of-place.result refl (c.requires.live c.loop-number.number-index 0 c.loop-number-test.true)
    c.place_of-place.ensures)).0

pub fixed_position-requires-clause-off : goal.fixed_position-requires-clause-off
fixed_position-requires-clause-off g c =
    (places_low _ c.place_of-place.result.row c.place_of-place.result.off (omega (arith, c.leaves-leaves.ensures.few))
    (placed_within c.args.forest.now.entries _ _ c.place_of-place.result refl (c.requires.live c.loop-number.number-index 0 c.loop-number-test.true)
    c.place_of-place.ensures)).1

pub loop-number-preserved : goal.loop-number-preserved
loop-number-preserved g c = targeted_more c.args.forest.now.entries c.args.numbers.now c.loop-number.number-index c.fixed_position.result
    c.place_of-place.result c.loop-number.targets.items c.push.new.self.items c.loop-number-test.true c.place_of-place.ensures
    c.fixed_position.ensures.is c.loop-number.invariant c.in_ok-push.ensures.items
