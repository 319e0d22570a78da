use Rattle.std.proofs.Common.{refl}
use Rattle.proof_wire.proofs.MakingLaws.{proof_fits, text_made}
use Rattle.proof_wire.proofs.message.Message.put.Goals as goal

pub returns-clause-ok : goal.returns-clause-ok
returns-clause-ok c =
    let parts = rw (c.deref.ensures.value, c.deref-2.ensures.value, c.deref-3.ensures.value) at c.put_parts.ensures.ok in
    rw (← c.self.view_is, text_made _ _ c.self.invariant.0 c.self.inside.hashes.items) parts

pub returns-clause-fits : goal.returns-clause-fits
returns-clause-fits c =
    let few = rw (c.deref.ensures.value, c.deref-3.ensures.value) at c.put_parts.ensures.few in
    rw (← c.self.view_is) (proof_fits _ _ _ c.self.invariant few.0 few.1)

pub returns-clause-version : goal.returns-clause-version
returns-clause-version c = rw (← c.self.view_is) refl
