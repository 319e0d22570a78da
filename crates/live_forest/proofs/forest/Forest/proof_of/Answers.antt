use Rattle.live_forest.proofs.Holding.{parts_seen, held_seen}
use Rattle.live_forest.proofs.forest.Forest.proof_of.Goals as goal

pub proof_of_entries-requires-clause-right : goal.proof_of_entries-requires-clause-right
proof_of_entries-requires-clause-right g c = parts_seen g.D.Digester.digest_of c.self.inside.count c.self.inside.room c.self.inside.store
    c.self.invariant

pub proof_of_entries-requires-clause-held : goal.proof_of_entries-requires-clause-held
proof_of_entries-requires-clause-held g c =
    held_seen g.D.Digester.digest_of c.self.inside.count c.self.inside.room c.self.inside.store c.self.invariant
