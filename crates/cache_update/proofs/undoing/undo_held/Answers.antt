use Rattle.std.proofs.Common.{sym, subst}
use Rattle.cache_model.specs.Lists.{AscendByPlace}
use Rattle.cache_update.proofs.Chained.{given_ascends}
use Rattle.cache_update.proofs.undoing.undo_held.Goals as goal

pub returns-clause-ascends : goal.returns-clause-ascends
returns-clause-ascends c = subst AscendByPlace (sym c.undo_places.ensures.items)
    (given_ascends c.args.lost.now c.args.gained.now c.args.held.now.items c.requires.ascends)
