use Rattle.std.proofs.Common.{ℕ, sym, subst}
use Rattle.cache_update.specs.Marks.{AreOfForest}
use Rattle.cache_update.proofs.Refusing.{forest_lists}
use Rattle.cache_update.proofs.start.begin_changing.Goals as goal

pub returns-then-not-is_of_forest-clause-err : goal.returns-then-not-is_of_forest-clause-err
returns-then-not-is_of_forest-clause-err c = λ f. c.if-not-is_of_forest.ensures.other
    (subst (λ (n : ℕ). AreOfForest n c.args.parts.now) (sym c.leaves.ensures.is) (forest_lists c.args.targets.now.leaves c.args.parts.now f))
