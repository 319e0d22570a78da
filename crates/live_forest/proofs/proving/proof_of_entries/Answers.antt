use Rattle.live_forest.proofs.Slotted.{proof_joined}
use Rattle.live_forest.specs.Parts.{entries_in}
use Rattle.live_forest.proofs.proving.proof_of_entries.Goals as goal

pub returns-clause-siblings : goal.returns-clause-siblings
returns-clause-siblings g c = proof_joined g.D.Digester.digest_of (entries_in c.args.n c.args.store.now) c.args.numbers.now c.in_ok-rows.rows.items
    c.in_ok-rows.ensures.wide c.in_ok-rows.ensures.are

pub returns-clause-rows : goal.returns-clause-rows
returns-clause-rows g c = record { many = c.in_ok-rows.ensures.wide; are = c.in_ok-rows.ensures.are }
