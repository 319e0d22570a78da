use Rattle.std.proofs.Common.{◌+◌, ap, ◌∙◌}
use Rattle.forest_place.proofs.Positions.{one_fixed_position}
use Rattle.forest_place.proofs.numbering.fixed_position.Goals as goal

pub returns-clause-alone : goal.returns-clause-alone
returns-clause-alone c = λ q low same. one_fixed_position q c.args.place low (c.requires.row, c.requires.off)
    (same ∙ ap (λ x. x + c.args.place.off) c.row_start.ensures)
