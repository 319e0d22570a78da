use Rattle.forest_place.proofs.Positions.{places_low, fixed_order, fixed_keeps}
use Rattle.forest_place.proofs.laws.fixed_positions_ascend.Goals as goal

pub returns-clause-low : goal.returns-clause-low
returns-clause-low c = places_low

pub returns-clause-ascending : goal.returns-clause-ascending
returns-clause-ascending c = fixed_order

pub returns-clause-order : goal.returns-clause-order
returns-clause-order c = fixed_keeps
