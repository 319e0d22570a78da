use Rattle.forest_roots.proofs.Few.{all_few}
use Rattle.forest_roots.proofs.laws.additions_take_few_steps.Goals as goal

pub returns : goal.returns
returns c = all_few
