use Rattle.cache_update.proofs.OfHistory.{of_its_roots}
use Rattle.cache_update.proofs.laws.cache_is_of_its_roots.Goals as goal

pub returns : goal.returns
returns c = λ H scripts us f ks hs standing s. of_its_roots H scripts us f ks hs standing s
