use Rattle.state_text.proofs.Filling as by
use Rattle.state_text.proofs.laws.one_filling.Goals as goal

pub returns : goal.returns
returns c = by.one_filling
