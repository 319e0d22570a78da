use Rattle.std.proofs.Common.{◌+◌, ap, ◌∙◌, arith}
use Rattle.forest_place.specs.Position.{row_start}
use Rattle.forest_place.proofs.Positions.{within_rows, one_position}
use Rattle.forest_place.proofs.numbering.position.Goals as goal

pub row_start-requires-clause-row : goal.row_start-requires-clause-row
row_start-requires-clause-row c = omega (arith, (within_rows c.args.n c.args.place.row c.args.place.off c.requires.within).0, c.rows.ensures.is)

pub returns-clause-alone : goal.returns-clause-alone
returns-clause-alone c = λ q within same.
    one_position c.args.n q c.args.place within c.requires.within
    (same ∙ (ap (λ x. x + c.args.place.off) c.row_start.ensures ∙ ap (λ t. row_start t c.args.place.row + c.args.place.off) c.rows.ensures.is))
