use Rattle.uo_digest.proofs.DigestLaws.{digests_even}
use Rattle.proof_wire.proofs.CountedParts.{gives_parts, whole_parts}
use Rattle.ticket_check.proofs.reading.read_hashes.Goals as goal

pub returns-clause-exact : goal.returns-clause-exact
returns-clause-exact c = gives_parts _ 32 _ digests_even _ _ _ c.take_parts.ensures

pub returns-clause-even : goal.returns-clause-even
returns-clause-even c = whole_parts _ 32 _ digests_even _ _ _ c.take_parts.ensures
