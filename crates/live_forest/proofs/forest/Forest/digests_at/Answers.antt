use Rattle.live_forest.proofs.Holding.{parts_seen}
use Rattle.live_forest.proofs.forest.Forest.digests_at.Goals as goal

pub digests_of_places-requires-clause-right : goal.digests_of_places-requires-clause-right
digests_of_places-requires-clause-right g c = parts_seen g.D.Digester.digest_of c.self.inside.count c.self.inside.room c.self.inside.store
    c.self.invariant
