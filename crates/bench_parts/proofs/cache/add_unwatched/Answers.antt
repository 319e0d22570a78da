use Rattle.uo_digest.specs.contracts.sha.Sha512t256Digester.TheImpl.{ghosts}
use Rattle.cache_update.proofs.Changed.{joins_slots}
use Rattle.bench_parts.proofs.cache.add_unwatched.Goals as goal

pub after_add-requires-clause-slots : goal.after_add-requires-clause-slots
after_add-requires-clause-slots g c = joins_slots ghosts.digest_of _ _ _ _ c.leaves-n.ensures.is c.add_into.ensures.joins
