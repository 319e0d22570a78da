use Rattle.std.proofs.Common.{◌≡◌, sym, ◌∙◌, subst, false}
use Rattle.forest_place.specs.declared.place.Place.{Place}
use Rattle.forest_place.specs.Forest.{InForest}
use Rattle.forest_place.proofs.Parts.{InForest-up}
use Rattle.forest_place.proofs.Positions.{row_small}
use Rattle.proof_shape.specs.Survey.{is_top}
use Rattle.proof_shape.proofs.cover.above.Goals as goal

pub parent-requires : goal.parent-requires
parent-requires c = row_small c.args.n c.args.place.row c.args.place.off 40 c.requires.within c.requires.small

pub returns-else-is_root : goal.returns-else-is_root
returns-else-is_root c =
    let other : is_top c.args.n c.args.place ≡ false = sym c.is_root.ensures ∙ c.if-is_root.false in (
      other,
      c.parent.ensures.is,
      subst (λ (p : Place). InForest c.args.n p.row p.off) (sym c.parent.ensures.is)
          (InForest-up c.args.n c.args.place.row c.args.place.off c.requires.within other),
    )
