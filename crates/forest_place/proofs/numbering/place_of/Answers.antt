use Rattle.std.proofs.Common.{◌≡◌, ◌+◌, subst, arith}
use Rattle.std.specs.Prelude.{MatchOption}
use Rattle.forest_place.specs.declared.place.Place.{Place}
use Rattle.forest_place.specs.Forest.{InForest}
use Rattle.forest_place.specs.Position.{row_start}
use Rattle.forest_place.specs.declared.naming.Naming.TheVariants.{Position}
use Rattle.forest_place.proofs.NamedLaws.{place_by-is}
use Rattle.forest_place.proofs.numbering.place_of.Goals as goal

pub returns-clause-is : goal.returns-clause-is
returns-clause-is c =
    place_by-is Position c.args.n c.args.position c.place_among.result (omega (arith, c.requires))
    (subst (λ t. MatchOption c.place_among.result ((q : Place) → InForest c.args.n q.row q.off → row_start t q.row + q.off ≡ c.args.position → ⊥)
    (λ p. InForest c.args.n p.row p.off × (row_start t p.row + p.off ≡ c.args.position))) c.rows.ensures.is c.place_among.ensures)
