use Rattle.forest_place.proofs.Positions.{shifted_start}
use Rattle.forest_place.proofs.numbering.row_start.Goals as goal

pub returns : goal.returns
returns c = shifted_start c.args.top c.args.row c.requires.few c.requires.row
