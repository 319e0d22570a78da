use Rattle.std.proofs.Common.{inl, subst, ◌∙◌, ap}
use Rattle.bridge_prover.specs.Watched.{scripts_of}
use Rattle.uo_base.proofs.PortLemmas.{told_text, Tells-told_text}
use Rattle.node_commands.specs.Auditing.{auditing}
use Rattle.node_commands.specs.Auditor.{fresh_auditor}
use Rattle.node_commands.specs.Watching.{IsListOf}
use Rattle.node_commands.proofs.AuditLemmas.{audit-serves}
use Rattle.node_commands.proofs.RanLemmas.{ran-unbegun, ran-refusing, ran-begun}
use Rattle.node_commands.proofs.audit.audit.Goals as goal

pub returns-in_err-watch-clause-ran : goal.returns-in_err-watch-clause-ran
returns-in_err-watch-clause-ran g c = λ prior out. ran-unbegun _ _ _ _ _ _ _ _ c.from_residual.ensures.0 tt

pub returns-in-Err-clause-ran : goal.returns-in-Err-clause-ran
returns-in-Err-clause-ran g c =
    λ prior out.
    let l = subst (IsListOf _ _ _) c.in-Err.is c.in_ok-watch.ensures.list in
    ran-refusing (auditing g.D.Digester.digest_of c.args.limits c.args.net c.args.named) _ prior _ (told_text prior) l.text (Tells-told_text prior)
    l.told c.in-Err.bad l.is _ _ _ _ c.say.result c.say.ensures.status c.say.ensures.whole c.say.ensures.part tt

pub returns-in_err-auditor-clause-ran : goal.returns-in_err-auditor-clause-ran
returns-in_err-auditor-clause-ran g c = λ prior out. ran-unbegun _ _ _ _ _ _ _ _ c.from_residual-in_err-auditor.ensures.0 tt

pub returns-clause-ran : goal.returns-clause-ran
returns-clause-ran g c =
    λ prior out.
    let l = subst (IsListOf _ _ _) c.in-Ok.is c.in_ok-watch.ensures.list in
    ran-begun (auditing g.D.Digester.digest_of c.args.limits c.args.net c.args.named) _ prior _ (told_text prior) l.text (Tells-told_text prior)
    l.told c.in-Ok.watch l.is _ _
    (audit-serves _ c.args.limits c.args.net (scripts_of c.in-Ok.watch) c.requires.leaves _
    (c.in_ok-auditor.ensures ∙ ap (fresh_auditor c.args.net c.args.limits) c.watched-watch.ensures) out _ _ c.serve.ensures.served)

pub returns-clause-read : goal.returns-clause-read
returns-clause-read g c = λ failed. inl (c.serve.ensures.read failed)
