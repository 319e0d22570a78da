use Rattle.forest_place.proofs.Positions.{position_order}
use Rattle.forest_place.proofs.laws.positions_ascend.Goals as goal

pub returns : goal.returns
returns c = position_order
