use Rattle.cache_update.proofs.Chained.{in_order}
use Rattle.cache_update.proofs.laws.fitting_mark_gives_in_order.Goals as goal

pub returns : goal.returns
returns c = λ m p fits. in_order m p fits
