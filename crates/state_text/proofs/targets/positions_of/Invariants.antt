use Rattle.std.proofs.Common.{◌≡◌, take}
use Rattle.forest_place.specs.Position.{positions_of}
use Rattle.state_text.proofs.targets.positions_of.Given as goal

abbrev pub invariant-loop-i : goal.invariant-loop-i
invariant-loop-i l = l.positions.items ≡ positions_of l.n (take l.i l.places)
