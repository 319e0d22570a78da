use Rattle.std.proofs.Common.{sym}
use Rattle.uo_digest.proofs.DigestLaws.{length-digests}
use Rattle.uo_digest.proofs.digests.Digests.len.Goals as goal

pub returns : goal.returns
returns c = rw (← c.self.view_is) (sym (length-digests _ c.self.invariant))
