use Rattle.std.proofs.Common.{ℕ, ◌<◌, false, subst, sym, ap, ◌∙◌}
use Rattle.std.specs.Prelude.{IfSome}
use Rattle.forest_place.specs.declared.place.Place.{Place}
use Rattle.forest_place.specs.Forest.{InForest}
use Rattle.forest_model.specs.Deletion.{child_place}
use Rattle.cache_update.proofs.Descending.{staying_is, goes_with, goal_inner}
use Rattle.cache_update.proofs.deletion_goals.goal_of.Goals as goal

pub child_goal-requires-clause-inner : goal.child_goal-requires-clause-inner
child_goal-requires-clause-inner c =
    subst (λ (n : ℕ). IfSome c.in-Some-told.goal (λ (to : Place). (0 < to.row) × InForest n to.row to.off)) (sym c.leaves.ensures.is)
    (goal_inner c.args.targets.now.leaves c.args.targets.now.targets c.args.place c.in-Some.next c.requires.within
    (staying_is c.args.targets.now.leaves c.args.targets.now.targets c.args.place c.args.staying c.in-Some.next c.in-Some.is c.requires.staying)
    c.in-Some-told.goal (c.in-Some-told.ensures c.args.targets.now.leaves c.args.targets.now.targets c.requires.told))

pub returns : goal.returns
returns c =
    c.child_goal.ensures ∙ ap (λ s. child_place false s c.in-Some-told.goal) c.side.ensures.is
    ∙ goes_with c.args.targets.now.leaves c.args.targets.now.targets c.args.place c.in-Some.next c.requires.within
    (staying_is c.args.targets.now.leaves c.args.targets.now.targets c.args.place c.args.staying c.in-Some.next c.in-Some.is c.requires.staying)
    c.in-Some-told.goal (c.in-Some-told.ensures c.args.targets.now.leaves c.args.targets.now.targets c.requires.told)
