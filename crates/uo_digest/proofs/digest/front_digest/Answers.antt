use Rattle.std.proofs.Common.{arith}
use Rattle.uo_base.proofs.Formats.{finds}
use Rattle.uo_digest.proofs.DigestLaws.{digest_lawful}
use Rattle.uo_digest.proofs.digest.front_digest.Goals as goal

pub returns-clause-reads : goal.returns-clause-reads
returns-clause-reads c = finds _ _ _ _ digest_lawful _ _ (λ i. omega (arith, c.type_inv.bytes i)) c.split_digest.ensures
