use Rattle.std.proofs.Common.{◌/◌, ◌^◌, subst, arith}
use Rattle.forest_place.specs.Forest.{InForest, sibling_off}
use Rattle.live_forest.proofs.Holding.{length-entries}
use Rattle.live_forest.proofs.seen.beside_in.Goals as goal

pub beside-requires-clause-small : goal.beside-requires-clause-small
beside-requires-clause-small c = omega (arith, length-entries c.args.n c.args.store.now c.requires.room, c.requires.small)

pub beside-requires-clause-within : goal.beside-requires-clause-within
beside-requires-clause-within c =
    subst (λ m. InForest m c.args.row (sibling_off (c.args.number / 2 ^ c.args.row)))
    (length-entries c.args.n c.args.store.now c.requires.room) c.requires.within

pub beside-requires-clause-listed : goal.beside-requires-clause-listed
beside-requires-clause-listed c = c.requires.held c.args.number c.requires.live
