use Rattle.live_forest.proofs.Holding.{parts_seen}
use Rattle.live_forest.proofs.forest.Forest.digest_at.Goals as goal

pub digest_of_place-requires-clause-right : goal.digest_of_place-requires-clause-right
digest_of_place-requires-clause-right g c = parts_seen g.D.Digester.digest_of c.self.inside.count c.self.inside.room c.self.inside.store
    c.self.invariant
