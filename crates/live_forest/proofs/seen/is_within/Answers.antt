use Rattle.std.proofs.Common.{subst, sym, arith}
use Rattle.forest_place.specs.Forest.{InForest}
use Rattle.live_forest.proofs.Holding.{length-entries}
use Rattle.live_forest.proofs.seen.is_within.Goals as goal

pub is_within-requires : goal.is_within-requires
is_within-requires c = omega (arith, length-entries c.args.n c.args.store.now c.requires.room, c.requires.small)

pub returns : goal.returns
returns c =
    let long = length-entries c.args.n c.args.store.now c.requires.room in
    let means = c.is_within.ensures.means in (
      (λ t. subst (λ m. InForest m c.args.place.row c.args.place.off) (sym long) (means.0 t)),
      (λ h. means.1 (subst (λ m. InForest m c.args.place.row c.args.place.off) long h)),
    )
