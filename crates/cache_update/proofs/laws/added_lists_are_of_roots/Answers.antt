use Rattle.cache_update.proofs.Rooted.{added_of_roots}
use Rattle.cache_update.proofs.laws.added_lists_are_of_roots.Goals as goal

pub returns : goal.returns
returns c = λ H f g d watched ks hs added a. added_of_roots H f g d watched ks hs added a
