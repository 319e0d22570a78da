use Rattle.std.proofs.Common.{◌/◌, ap₂, ◌∙◌, bit_or, arith}
use Rattle.std.proofs.lemmas.Nat.{one_shl}
use Rattle.forest_place.proofs.Positions.{parent-position}
use Rattle.forest_place.proofs.numbering.parent_position.Goals as goal

pub returns-clause-parent : goal.returns-clause-parent
returns-clause-parent c = λ row off lt inside e.
    ap₂ (λ x y. bit_or (x / 2) y) e (one_shl c.args.rows 64 (omega (arith, c.requires.few))) ∙ parent-position c.args.rows row off lt inside
