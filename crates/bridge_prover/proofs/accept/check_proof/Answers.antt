use Rattle.node_rules.proofs.Claiming.{read_leaves, refused_first}
use Rattle.node_rules.proofs.Handing.{handed_on}
use Rattle.bridge_prover.proofs.Checking.{first_here, checked_by, check_steps}
use Rattle.bridge_prover.proofs.accept.check_proof.Goals as goal

pub returns-in_err-claim-clause-err : goal.returns-in_err-claim-clause-err
returns-in_err-claim-clause-err g c =
    let fault = c.in_err-claim.field-0.0 in
    handed_on _ _ fault c.from_residual.ensures.1
    (first_here g.D.Digester.digest_of c.args.forest.now.entries c.roots-roots.result c.roots-roots.ensures c.args.known.now c.args.external.now
    c.args.message.now fault c.in_err-claim.ensures.err)

pub delete_claim-requires-clause-entries : goal.delete_claim-requires-clause-entries
delete_claim-requires-clause-entries g c = c.in_ok-claim.ensures.filled.named.leaves

pub delete_claim-requires-clause-leaves : goal.delete_claim-requires-clause-leaves
delete_claim-requires-clause-leaves g c =
    let k = c.in_ok-claim.claim in
    read_leaves g.D.Digester.digest_of c.roots-roots.result c.args.known.now c.args.external.now c.args.message.now k.targets k.leaves.items
    k.hashes.items c.in_ok-claim.ensures.filled

pub returns-in_err-delete_claim-clause-err : goal.returns-in_err-delete_claim-clause-err
returns-in_err-delete_claim-clause-err g c =
    let H = g.D.Digester.digest_of in
    let k = c.in_ok-claim.claim in
    let fault = c.in_err-delete_claim.field-0.0 in
    handed_on _ _ fault c.from_residual-in_err-delete_claim.ensures.1
    (first_here H c.args.forest.now.entries c.roots-roots.result c.roots-roots.ensures c.args.known.now c.args.external.now c.args.message.now fault
    (refused_first H c.roots-roots.result c.args.known.now c.args.external.now c.args.message.now k.targets k.leaves.items k.hashes.items
    c.in_ok-claim.ensures.filled fault c.in_err-delete_claim.ensures.err))

pub returns-clause-ok : goal.returns-clause-ok
returns-clause-ok g c =
    let k = c.in_ok-claim.claim in
    checked_by g.D.Digester.digest_of c.args.forest.now.entries c.roots-roots.result c.roots-roots.ensures c.args.known.now c.args.external.now
    c.args.message.now k.targets k.leaves.items k.hashes.items c.in_ok-claim.ensures.filled _ _ _ c.in_ok-delete_claim.ensures.ok

pub returns-in_err-delete_claim-clause-steps : goal.returns-in_err-delete_claim-clause-steps
returns-in_err-delete_claim-clause-steps g c =
    let k = c.in_ok-claim.claim in
    check_steps g.D.Digester.digest_of c.args.forest.now.entries c.roots-roots.result c.roots-roots.ensures c.args.known.now c.args.external.now
    c.args.message.now k.targets k.leaves.items k.hashes.items c.in_ok-claim.ensures.filled c.args.steps.now _ _
    c.in_ok-claim.ensures.steps c.in_err-delete_claim.ensures.steps

pub returns-clause-steps : goal.returns-clause-steps
returns-clause-steps g c =
    let k = c.in_ok-claim.claim in
    check_steps g.D.Digester.digest_of c.args.forest.now.entries c.roots-roots.result c.roots-roots.ensures c.args.known.now c.args.external.now
    c.args.message.now k.targets k.leaves.items k.hashes.items c.in_ok-claim.ensures.filled c.args.steps.now _ _
    c.in_ok-claim.ensures.steps c.in_ok-delete_claim.ensures.steps
