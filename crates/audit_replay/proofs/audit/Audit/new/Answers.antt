use Rattle.std.proofs.Common.{Some, sym, subst}
use Rattle.audit_replay.specs.Audit.{IsAudit}
use Rattle.audit_replay.proofs.Auditing.{fresh_is_audit}
use Rattle.audit_replay.proofs.audit.Audit.new.Goals as goal

pub invariant_of-result : goal.invariant_of-result
invariant_of-result g c = subst (IsAudit g.D.Digester.digest_of) (sym c.in_ok-new.ensures)
    (fresh_is_audit g.D.Digester.digest_of c.args.net c.args.limits (Some c.args.watch) c.requires)
