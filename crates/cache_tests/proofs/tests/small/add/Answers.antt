use Rattle.cache_update.proofs.Changed.{joins_slots}
use Rattle.cache_tests.proofs.tests.small.add.Goals as goal

pub after_add-requires-clause-slots : goal.after_add-requires-clause-slots
after_add-requires-clause-slots g c = joins_slots g.D.Digester.digest_of _ _ _ _ c.leaves-n.ensures.is c.add-joins.ensures.joins
