use Rattle.std.proofs.Common.{ℕ, ◌-◌, ◌<◌, ◌^◌, ◌++◌, ◌∷◌, [], cond, rules, sym, ap, ◌∙◌, subst, arith}
use Rattle.forest_place.specs.declared.place.Place.{Place}
use Rattle.forest_place.specs.Places.{is_before_place}
use Rattle.cache_model.specs.Search.{IsSplit}
use Rattle.cache_model.specs.Undo.{held_key}
use Rattle.cache_update.specs.DeletionGoals.{NoneBefore}
use Rattle.cache_update.proofs.Descending.{told_more, held_within}
use Rattle.cache_update.proofs.Walked.{none_up}
use Rattle.cache_update.proofs.deletion_goals.tell_goals.Goals as goal

pub above-requires-clause-small : goal.above-requires-clause-small
above-requires-clause-small c = subst (λ (n : ℕ). n < 2 ^ 40) (sym c.leaves.ensures.is) c.leaves.ensures.targets.few

pub above-requires-clause-within : goal.above-requires-clause-within
above-requires-clause-within c = held_within c.args.targets.now.leaves c.leaves.result c.args.held.now (c.loop-left.left - 1) _ c.leaves.ensures.is
    c.requires.within (omega (arith, c.loop-left.invariant.each, c.loop-left-test.true))

pub index_back-at-requires-clause-none : goal.index_back-at-requires-clause-none
index_back-at-requires-clause-none c = subst (NoneBefore c.args.held.now c.loop-left.at) (sym c.above.ensures)
    (c.loop-left.invariant.near (c.loop-left.left - 1) _ (omega (arith, c.loop-left-test.true)))

pub loop-left-preserved : goal.loop-left-preserved
loop-left-preserved c = record {
  told = told_more c.args.targets.now.leaves c.args.targets.now.targets c.args.held.now c.loop-left.goals.items c.push.new.self.items
      (c.loop-left.left - 1) _ c.goal_of-goal.result c.loop-left.invariant.told c.goal_of-goal.ensures
      (omega (arith, c.loop-left.invariant.each, c.loop-left-test.true))
      (c.push.ensures.items ∙ ap (λ b. cond b (c.loop-left.goals.items ++ c.goal_of-goal.result ∷ []) c.loop-left.goals.items)
      (c.push.ensures.succeeds (omega (arith, c.loop-left.invariant.each, c.loop-left.invariant.room, c.loop-left-test.true))));
  each = search rules;
  room = search rules;
  beside = c.staying_beside-found.ensures;
  near = λ i d lt. none_up c.args.held.now c.args.held.now i (c.loop-left.left - 1) c.index_back-at.result _ d c.requires.ascends lt
      (omega (arith, c.loop-left.invariant.each, c.loop-left-test.true))
      (subst (λ (p : Place). IsSplit is_before_place held_key p c.args.held.now c.index_back-at.result) c.above.ensures c.index_back-at.ensures);
}
