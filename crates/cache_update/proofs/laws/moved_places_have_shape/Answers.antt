use Rattle.cache_update.proofs.Rooted.{moved_shape}
use Rattle.cache_update.proofs.laws.moved_places_have_shape.Goals as goal

pub returns : goal.returns
returns c = λ n ts ks s. moved_shape n ts ks s
