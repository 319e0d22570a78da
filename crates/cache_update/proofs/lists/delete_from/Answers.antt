use Rattle.std.proofs.Common.{ℕ, sym, subst, All}
use Rattle.cache_model.specs.Lists.{AscendByNumber}
use Rattle.cache_update.specs.Marks.{IsKnownIn}
use Rattle.cache_update.proofs.Orders.{moved_ascend}
use Rattle.cache_update.proofs.Within.{IsKeptIn, IsNumbered, moved_in, known_held, numbers_moved}
use Rattle.cache_update.proofs.lists.delete_from.Goals as goal

pub invariant_of-parts : goal.invariant_of-parts
invariant_of-parts c = (
  subst AscendByNumber (sym c.move_kept.ensures.kept)
      (moved_ascend c.args.targets.now.leaves c.args.targets.now.targets _ c.parts.invariant.0),
  c.delete_held.ensures.ascends,
)

pub returns-clause-forest : goal.returns-clause-forest
returns-clause-forest c =
    let forest = rw (← c.parts.view_is) at c.requires.forest in
    record {
      numbers = subst (All (IsNumbered c.args.targets.now.leaves)) (sym c.move_kept.ensures.kept)
          (numbers_moved c.args.targets.now.leaves c.args.targets.now.targets c.args.targets.now.leaves _ forest.numbers);
      kept = subst (All (IsKeptIn c.args.targets.now.leaves)) (sym c.move_kept.ensures.kept)
          (moved_in c.args.targets.now.leaves c.args.targets.now.targets _ forest.kept);
      held = known_held c.args.targets.now.leaves c.args.kept.now.targets _
          (subst (λ (n : ℕ). All (IsKnownIn n c.args.kept.now.targets) c.delete_held.new.held.items) c.requires.same c.delete_held.ensures.known);
    }

pub returns-clause-ordered : goal.returns-clause-ordered
returns-clause-ordered c = (
  subst AscendByNumber (sym c.move_kept.ensures.kept)
      (moved_ascend c.args.targets.now.leaves c.args.targets.now.targets _ c.parts.invariant.0),
  c.delete_held.ensures.ascends,
)
