use Rattle.live_forest.specs.Parts.{entries_in}
use Rattle.live_forest.proofs.Holding.{parts_seen}
use Rattle.live_forest.proofs.Seeking.{alike}
use Rattle.live_forest.proofs.forest.Forest.number_at.Goals as goal

pub number_of_place-requires-clause-alike : goal.number_of_place-requires-clause-alike
number_of_place-requires-clause-alike g c =
    alike g.D.Digester.digest_of (entries_in c.self.inside.count c.self.inside.store) c.self.inside.store
    (parts_seen g.D.Digester.digest_of c.self.inside.count c.self.inside.room c.self.inside.store c.self.invariant)
