use Rattle.std.proofs.Common.{ℕ, ap₂, ◌∙◌, add-one}
use Rattle.forest_place.specs.declared.place.Place.{Place}
use Rattle.forest_place.proofs.Positions.{row_small}
use Rattle.cache_update.proofs.deletion_goals.above.Goals as goal

pub parent-requires : goal.parent-requires
parent-requires c = row_small c.args.n c.args.place.row c.args.place.off 40 c.requires.within c.requires.small

pub returns : goal.returns
returns c = ap₂ (λ (r : ℕ) (o : ℕ). let x : Place = record { row = r; off = o } in x) (c.parent.ensures.row ∙ add-one c.args.place.row)
    c.parent.ensures.off
