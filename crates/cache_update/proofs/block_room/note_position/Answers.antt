use Rattle.std.proofs.Common.{◌-◌, refl, sym, ◌∙◌, subst}
use Rattle.forest_place.specs.Forest.{InForest}
use Rattle.cache_update.proofs.Moves.{goes_within}
use Rattle.cache_update.proofs.block_room.note_position.Goals as goal

pub position-requires-clause-within : goal.position-requires-clause-within
position-requires-clause-within c =
    subst (λ n. InForest n c.in-Some.to.row c.in-Some.to.off) (sym c.leaves.ensures.is)
    (goes_within c.args.targets.now.leaves c.args.targets.now.targets (c.args.targets.now.leaves - c.args.place.row) c.args.place.row c.args.place.off
    c.in-Some.to refl c.requires.within (sym c.goal_at.ensures ∙ c.in-Some.is)).1
