use Rattle.cache_update.proofs.Chained.{in_order}
use Rattle.cache_tests.proofs.tests.held_before.Goals as goal

pub step_back-requires : goal.step_back-requires
step_back-requires g c = in_order c.args.mark.now c.args.cache.now.parts c.requires
