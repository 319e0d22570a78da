use Rattle.cache_update.proofs.Rooted.{deleted_of_roots}
use Rattle.cache_update.proofs.laws.deleted_lists_are_of_roots.Goals as goal

pub returns : goal.returns
returns c = λ H f g ts hashes pairs ks hs after a. deleted_of_roots H f g ts hashes after pairs ks hs a
