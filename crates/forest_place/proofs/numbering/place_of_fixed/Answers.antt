use Rattle.std.proofs.Common.{arith}
use Rattle.forest_place.specs.declared.naming.Naming.TheVariants.{FixedPosition}
use Rattle.forest_place.proofs.NamedLaws.{place_by-is}
use Rattle.forest_place.proofs.numbering.place_of_fixed.Goals as goal

pub returns-clause-is : goal.returns-clause-is
returns-clause-is c = place_by-is FixedPosition c.args.n c.args.position c.place_among.result (omega (arith, c.requires)) c.place_among.ensures
