use Rattle.uo_digest.specs.contracts.xor_fold.XorFoldDigester.TheImpl.{ghosts}
use Rattle.cache_update.proofs.Changed.{joins_slots}
use Rattle.cache_tests.proofs.tests.add.Goals as goal

pub after_add-requires-clause-slots : goal.after_add-requires-clause-slots
after_add-requires-clause-slots g c = joins_slots ghosts.digest_of _ _ _ _ c.leaves-n.ensures.is c.add-joins.ensures.joins
