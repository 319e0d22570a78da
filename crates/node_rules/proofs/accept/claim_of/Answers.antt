use Rattle.std.proofs.Common.{Err, subst}
use Rattle.node_rules.specs.Judged.{AreNamed, TargetsJudged}
use Rattle.node_rules.specs.Claimed.{view_by}
use Rattle.node_rules.proofs.Handing.{handed_on}
use Rattle.node_rules.proofs.Claiming.{targets_told, hashes_told}
use Rattle.node_rules.proofs.accept.claim_of.Goals as goal

pub returns-in_err-targets-clause-err : goal.returns-in_err-targets-clause-err
returns-in_err-targets-clause-err g c =
    let m = c.args.message.now in
    let fault = c.in_err-targets.field-0.0 in
    handed_on _ _ fault c.from_residual.ensures.1
    (targets_told g.D.Digester.digest_of (view_by c.args.roots.now c.args.known.now) c.args.external.now m fault
    (subst (λ n. TargetsJudged n m (Err fault)) c.leaves.ensures.is c.in_err-targets.ensures))

pub returns-in_err-hashes-clause-err : goal.returns-in_err-hashes-clause-err
returns-in_err-hashes-clause-err g c =
    let m = c.args.message.now in
    let t = c.in_ok-targets.targets in
    let fault = c.in_err-hashes.field-0.0 in
    handed_on _ _ fault c.from_residual-in_err-hashes.ensures.1
    (hashes_told g.D.Digester.digest_of (view_by c.args.roots.now c.args.known.now) c.args.external.now m t
    (subst (λ n. AreNamed n m t) c.leaves.ensures.is c.in_ok-targets.ensures) fault c.in_err-hashes.ensures)

pub returns-clause-filled : goal.returns-clause-filled
returns-clause-filled g c = record {
  count = c.requires.shown;
  named = subst (λ n. AreNamed n c.args.message.now c.in_ok-targets.targets) c.leaves.ensures.is c.in_ok-targets.ensures;
  leaves_are = c.in_ok-leaves.ensures.leaves;
  filled = c.in_ok-hashes.ensures;
}
