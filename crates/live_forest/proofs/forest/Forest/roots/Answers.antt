use Rattle.std.proofs.Common.{◌≡◌, ◌∙◌, true, length, ap, subst, arith}
use Rattle.forest_place.specs.Forest.{is_slot}
use Rattle.forest_place.proofs.Positions.{slot_small}
use Rattle.forest_roots.specs.Stump.{empty_roots}
use Rattle.live_forest.proofs.Filling.{none_filled, one_filled, none_there}
use Rattle.live_forest.proofs.forest.Forest.roots.Goals as goal
use Rattle.live_forest.proofs.forest.Forest.roots.Goals.{in-Some, in_default}

pub loop-row-init : goal.loop-row-init
loop-row-init g c = none_filled _ _ _ (c.of-roots.ensures ∙ ap empty_roots c.leaves.ensures.is)

pub loop-row-preserved : goal.loop-row-preserved
loop-row-preserved g c = elim c.match-root.branch [
  | in-Some w ↦ one_filled _ _ _ _ _ _ (omega (arith, c.loop-row-test.true)) w.in-Some.ensures.1 (w.roots-is ∙ w.put_root.ensures)
      c.loop-row.invariant
  | in_default w ↦ none_there _ _ _ _ _ w.in_default.ensures w.roots-is c.loop-row.invariant
]

pub returns : goal.returns
returns g c = record {
  leaves = c.loop-row.invariant.leaves;
  roots = λ row slot.
      let n = length c.args.self.now.entries in
      let here : is_slot n row ≡ true = subst (λ m. is_slot m row ≡ true) c.loop-row.invariant.leaves slot in
      let small = slot_small n row 40 here c.leaves.ensures.few in
      c.loop-row.invariant.done row (omega (arith, small, c.loop-row-test.false)) here;
}
