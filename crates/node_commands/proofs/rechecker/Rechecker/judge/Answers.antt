use Rattle.std.proofs.Common.{sym, ap, ◌∙◌}
use Rattle.ticket_check.specs.Checking.{recheck_of}
use Rattle.node_commands.proofs.RecheckLemmas.{over-status, over-said, going-status, going-said}
use Rattle.node_commands.proofs.rechecker.Rechecker.judge.Goals as goal

pub returns-then-ended-clause-status : goal.returns-then-ended-clause-status
returns-then-ended-clause-status g c = rw (← c.self.view_is) (over-status g.D.Digester.digest_of _ (sym c.ended.ensures ∙ c.if-ended.true))

pub returns-then-ended-clause-said : goal.returns-then-ended-clause-said
returns-then-ended-clause-said g c = rw (← c.self.view_is) (over-said g.D.Digester.digest_of _ _ (sym c.ended.ensures ∙ c.if-ended.true))

pub returns-clause-status : goal.returns-clause-status
returns-clause-status g c =
    rw (← c.self.view_is)
    (going-status g.D.Digester.digest_of _ _ _ (sym c.ended.ensures ∙ c.if-ended.false)
    (c.in_ok-checked.ensures ∙ ap (recheck_of g.D.Digester.digest_of c.self.inside.audit.bridge) c.deref.ensures.value)
    c.push_checked.ensures.status)

pub returns-clause-said : goal.returns-clause-said
returns-clause-said g c =
    rw (← c.self.view_is)
    (going-said g.D.Digester.digest_of _ _ _ _ _ (sym c.ended.ensures ∙ c.if-ended.false)
    (c.in_ok-checked.ensures ∙ ap (recheck_of g.D.Digester.digest_of c.self.inside.audit.bridge) c.deref.ensures.value)
    c.push_checked.ensures.said)
