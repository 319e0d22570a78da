use Rattle.std.proofs.Common.{◌∙◌}
use Rattle.ticket_check.proofs.Tickets.{done_so, stays_so}
use Rattle.ticket_check.proofs.judging.fault_at.Goals as goal

pub returns-in-Ok : goal.returns-in-Ok
returns-in-Ok g c =
    done_so g.D.Digester.digest_of c.args.roots.now c.args.ticket.now c.args.targets.now c.requires c.leaves-count.ensures.targets.shape
    c.copy-copy.result c.leaf_digest-leaf.result c.leaf.result c.deref.result.now c.copy-copy.ensures c.leaf_digest-leaf.ensures.value
    c.leaf.ensures.is (c.deref.ensures.value ∙ (c.in_ok-hashes.ensures ∙ c.hashes.ensures))
    _ _ _ c.in-Ok.ensures.answer

pub returns : goal.returns
returns g c =
    stays_so g.D.Digester.digest_of c.args.roots.now c.args.ticket.now c.args.targets.now c.requires c.leaves-count.ensures.targets.shape
    c.copy-copy.result c.leaf_digest-leaf.result c.leaf.result c.deref.result.now c.copy-copy.ensures c.leaf_digest-leaf.ensures.value
    c.leaf.ensures.is (c.deref.ensures.value ∙ (c.in_ok-hashes.ensures ∙ c.hashes.ensures))
    c.in-Err.fault _ c.in-Err.ensures.answer.0 c.proof_refusal_of.ensures
