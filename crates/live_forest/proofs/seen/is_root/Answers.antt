use Rattle.std.proofs.Common.{sym, ap, ◌∙◌, subst, arith}
use Rattle.forest_place.specs.Forest.{InForest, is_root}
use Rattle.live_forest.proofs.Holding.{length-entries}
use Rattle.live_forest.proofs.seen.is_root.Goals as goal

pub is_root-requires-clause-small : goal.is_root-requires-clause-small
is_root-requires-clause-small c = omega (arith, length-entries c.args.n c.args.store.now c.requires.room, c.requires.small)

pub is_root-requires-clause-within : goal.is_root-requires-clause-within
is_root-requires-clause-within c =
    subst (λ m. InForest m c.args.place.row c.args.place.off) (length-entries c.args.n c.args.store.now c.requires.room) c.requires.within

pub returns : goal.returns
returns c =
    c.is_root.ensures ∙ ap (λ m. is_root m c.args.place.row c.args.place.off) (sym (length-entries c.args.n c.args.store.now c.requires.room))
