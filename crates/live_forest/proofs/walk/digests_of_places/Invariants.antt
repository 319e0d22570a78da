use Rattle.std.proofs.Common.{◌≡◌, map, take}
use Rattle.forest_model.specs.Standing.{digest_at}
use Rattle.live_forest.specs.Parts.{entries_in}
use Rattle.live_forest.proofs.walk.digests_of_places.Given as goal

abbrev pub invariant-loop-place : goal.invariant-loop-place
invariant-loop-place g l = l.digests.items ≡ map (λ p. digest_at g.D.Digester.digest_of (entries_in l.n l.store) p.row p.off) (take l.place-index
    l.places)
