use Rattle.live_forest.proofs.Undoing.{undone}
use Rattle.live_forest.proofs.laws.undoing_gives_back.Goals as goal

pub returns : goal.returns
returns c = undone
