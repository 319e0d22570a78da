use Rattle.std.proofs.Common.{length, sym, subst, All, add-one, ◌+◌}
use Rattle.cache_model.specs.Lists.{AscendByNumber}
use Rattle.cache_update.specs.Joins.{is_empty_of}
use Rattle.cache_update.proofs.Orders.{more_ascend}
use Rattle.cache_update.proofs.Within.{IsHeldIn, IsKeptIn, IsNumbered, more_in, added_in, numbers_more}
use Rattle.cache_update.proofs.lists.add_to.Goals as goal

pub invariant_of-parts : goal.invariant_of-parts
invariant_of-parts c =
    let forest = rw (← c.parts.view_is) at c.requires.forest in (
      subst AscendByNumber (sym c.add_kept.ensures.items)
          (more_ascend (is_empty_of c.args.joins.now) c.args.n (length c.args.joins.now) c.args.leaf c.args.digest _ c.parts.invariant.0
          forest.numbers),
      c.add_held.ensures.ascends,
    )

pub returns-clause-forest : goal.returns-clause-forest
returns-clause-forest c =
    let forest = rw (← c.parts.view_is) at c.requires.forest in
    record {
      numbers = subst (All (IsNumbered (c.args.n + 1))) (sym c.add_kept.ensures.items)
          (numbers_more (is_empty_of c.args.joins.now) c.args.n (length c.args.joins.now) c.args.leaf c.args.digest _ forest.numbers);
      kept = subst (λ n. All (IsKeptIn n) c.add_kept.new.kept.items) (sym (add-one c.args.n))
          (subst (All (IsKeptIn _)) (sym c.add_kept.ensures.items)
          (more_in (is_empty_of c.args.joins.now) c.args.n (length c.args.joins.now) c.requires.slots c.args.leaf c.args.digest _ forest.kept));
      held = subst (λ n. All (IsHeldIn n) c.add_held.new.held.items) (sym (add-one c.args.n))
          (subst (All (IsHeldIn _)) (sym c.add_held.ensures.held)
          (added_in c.args.joins.now c.args.digest c.args.n _ _ c.requires.slots forest.held));
    }

pub returns-clause-ordered : goal.returns-clause-ordered
returns-clause-ordered c =
    let forest = rw (← c.parts.view_is) at c.requires.forest in (
      subst AscendByNumber (sym c.add_kept.ensures.items)
          (more_ascend (is_empty_of c.args.joins.now) c.args.n (length c.args.joins.now) c.args.leaf c.args.digest _ c.parts.invariant.0
          forest.numbers),
      c.add_held.ensures.ascends,
    )
