use Rattle.std.proofs.Common.{subst, arith}
use Rattle.forest_place.specs.Forest.{InForest}
use Rattle.live_forest.proofs.Holding.{length-entries}
use Rattle.live_forest.proofs.seen.part_in.Goals as goal

pub part-requires-clause-small : goal.part-requires-clause-small
part-requires-clause-small c = omega (arith, length-entries c.args.n c.args.store.now c.requires.room, c.requires.small)

pub part-requires-clause-within : goal.part-requires-clause-within
part-requires-clause-within c =
    subst (λ m. InForest m c.args.row c.args.off) (length-entries c.args.n c.args.store.now c.requires.room) c.requires.within
