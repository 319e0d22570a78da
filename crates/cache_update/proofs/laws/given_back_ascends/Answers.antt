use Rattle.cache_update.proofs.Chained.{ascends_back}
use Rattle.cache_update.proofs.laws.given_back_ascends.Goals as goal

pub returns : goal.returns
returns c = λ m p o fits. ascends_back m p o fits
