use Rattle.std.proofs.Common.{arith}
use Rattle.forest_place.proofs.Positions.{places_low}
use Rattle.forest_place.proofs.naming.Naming.number.Goals as goal

pub fixed_position-requires-clause-row : goal.fixed_position-requires-clause-row
fixed_position-requires-clause-row c = (places_low c.args.n c.args.place.row c.args.place.off (omega (arith, c.requires.small)) c.requires.within).0

pub fixed_position-requires-clause-off : goal.fixed_position-requires-clause-off
fixed_position-requires-clause-off c = (places_low c.args.n c.args.place.row c.args.place.off (omega (arith, c.requires.small)) c.requires.within).1
