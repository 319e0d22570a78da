use Rattle.std.proofs.Common.{arith}
use Rattle.forest_place.proofs.Positions.{places_low}
use Rattle.message_upgrade.proofs.message.number.Goals as goal

pub fixed_position-requires-clause-row : goal.fixed_position-requires-clause-row
fixed_position-requires-clause-row c = (places_low c.args.n _ _ (omega (arith, c.requires)) c.in-Some.ensures.exact.0).0

pub fixed_position-requires-clause-off : goal.fixed_position-requires-clause-off
fixed_position-requires-clause-off c = (places_low c.args.n _ _ (omega (arith, c.requires)) c.in-Some.ensures.exact.0).1
