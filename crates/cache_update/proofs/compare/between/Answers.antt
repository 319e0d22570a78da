use Rattle.std.proofs.Common.{arith}
use Rattle.cache_update.proofs.Beginning.{between_fits}
use Rattle.cache_update.proofs.compare.between.Goals as goal

pub returns-clause-fits : goal.returns-clause-fits
returns-clause-fits g c = λ p same kept held.
    between_fits c.in_ok-mark.mark p c.args.newer.now c.args.older.now c.in_ok-mark.ensures.room c.in_ok-mark.ensures.done.1
    c.in_ok-mark.ensures.kept c.in_ok-mark.ensures.held same
    (omega (arith, kept, c.in_ok-make_room.ensures.kept)) (omega (arith, held, c.in_ok-make_room.ensures.held))
