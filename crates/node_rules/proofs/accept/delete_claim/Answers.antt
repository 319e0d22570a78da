use Rattle.std.proofs.Common.{ap, subst}
use Rattle.proof_verify.specs.Verified.{IsDeleted, IsProofFault}
use Rattle.block_rules.specs.declared.refusal.Refusal.TheVariants as Why
use Rattle.node_rules.proofs.accept.delete_claim.Goals as goal

pub returns-in-Ok-clause-ok : goal.returns-in-Ok-clause-ok
returns-in-Ok-clause-ok g c =
    let H = g.D.Digester.digest_of in
    let k = c.args.claim.now in
    subst (λ b. IsDeleted b H c.args.roots.now k.targets.targets k.leaves.items k.hashes.items c.in-Ok.changes c.check_and_delete.new.roots)
    c.in_ok-reserve_for.ensures.tells
    (subst (λ xs. IsDeleted c.reserve_for.new.self.tells H c.args.roots.now k.targets.targets xs k.hashes.items c.in-Ok.changes
    c.check_and_delete.new.roots) c.as_slice-leaves.ensures.value
    (subst (λ ys. IsDeleted c.reserve_for.new.self.tells H c.args.roots.now k.targets.targets c.as_slice-leaves.result.now ys c.in-Ok.changes
    c.check_and_delete.new.roots) c.as_slice-hashes.ensures.value c.in-Ok.ensures.answer))

pub returns-in-Err-clause-err : goal.returns-in-Err-clause-err
returns-in-Err-clause-err g c =
    let H = g.D.Digester.digest_of in
    let k = c.args.claim.now in
    let fault = c.in-Err.fault in
    let wrong = subst (λ xs. IsProofFault H c.args.roots.now k.targets.targets xs k.hashes.items fault) c.as_slice-leaves.ensures.value
    (subst (λ ys. IsProofFault H c.args.roots.now k.targets.targets c.as_slice-leaves.result.now ys fault) c.as_slice-hashes.ensures.value
    c.in-Err.ensures.answer.0) in
    (fault, wrong, ap Why.Proof c.proof_refusal_of.ensures)
