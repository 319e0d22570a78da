use Rattle.std.proofs.Common.{sym, ap, ◌∙◌, subst, All}
use Rattle.leaf_cache.specs.Parted.{Parted}
use Rattle.cache_update.proofs.Refusing.{on_false}
use Rattle.cache_update.proofs.Within.{IsHeldIn}
use Rattle.cache_update.proofs.block_room.is_of_forest.Goals as goal

pub returns-then-are_kept_in-clause-other : goal.returns-then-are_kept_in-clause-other
returns-then-are_kept_in-clause-other c =
    on_false c.are_held_in.result
    (λ f a. f (subst (All (IsHeldIn c.args.n)) (sym (c.deref-then-are_kept_in.ensures.value ∙ ap (λ (p : Parted). p.held) c.parts.view_is)) a.held))
    c.are_held_in.ensures.other
