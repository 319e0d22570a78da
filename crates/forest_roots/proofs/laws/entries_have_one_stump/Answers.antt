use Rattle.forest_roots.proofs.One.{one_stump}
use Rattle.forest_roots.proofs.laws.entries_have_one_stump.Goals as goal

pub returns : goal.returns
returns c = one_stump
