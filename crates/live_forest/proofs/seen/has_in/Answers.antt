use Rattle.std.proofs.Common.{subst, arith}
use Rattle.forest_place.specs.Forest.{InForest}
use Rattle.live_forest.proofs.Holding.{length-entries}
use Rattle.live_forest.proofs.seen.has_in.Goals as goal

pub has-requires-clause-small : goal.has-requires-clause-small
has-requires-clause-small c = omega (arith, length-entries c.args.n c.args.store.now c.requires.room, c.requires.small)

pub has-requires-clause-within : goal.has-requires-clause-within
has-requires-clause-within c =
    subst (λ m. InForest m c.args.row c.args.off) (length-entries c.args.n c.args.store.now c.requires.room) c.requires.within
