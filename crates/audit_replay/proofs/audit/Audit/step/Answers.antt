use Rattle.std.proofs.Common.{Bool, sym, ap, ap₂, ◌∙◌, subst}
use Rattle.std.specs.Prelude.{is_none, is_some}
use Rattle.std.proofs.lemmas.Bool.{false≢true}
use Rattle.uo_base.specs.FeedEvent.{event_of}
use Rattle.node_rules.specs.Machine.{event_in}
use Rattle.bridge_prover.specs.Bridge.{BridgeState}
use Rattle.bridge_prover.specs.Full.{judged_on, next_judged, verdict_in}
use Rattle.audit_replay.specs.Audit.{AuditState, IsAudit}
use Rattle.audit_replay.proofs.Auditing.{next_is_audit}
use Rattle.audit_replay.proofs.audit.Audit.step.Goals as goal

pub invariant_of-self-in-Verdict : goal.invariant_of-self-in-Verdict
invariant_of-self-in-Verdict g c =
    let H = g.D.Digester.digest_of in
    subst (IsAudit H) (sym c.in_ok-verdict.ensures.next)
    (next_is_audit H c.self.inside.bridge (event_in (event_of c.args.event)) c.self.invariant c.in_ok-verdict.ensures.fits)

pub returns-in_ok-clash-in-Forged-clause-verdict : goal.returns-in_ok-clash-in-Forged-clause-verdict
returns-in_ok-clash-in-Forged-clause-verdict g c =
    let e = event_in (event_of c.args.event) in
    sym (ap verdict_in c.in-Forged.is) ∙ (c.in_ok-verdict.ensures.verdict
    ∙ ap (λ (x : AuditState). judged_on g.D.Digester.digest_of x.bridge e) c.self.view_is)

pub returns-in_ok-clash-in-Forged-clause-next : goal.returns-in_ok-clash-in-Forged-clause-next
returns-in_ok-clash-in-Forged-clause-next g c =
    let H = g.D.Digester.digest_of in
    let e = event_in (event_of c.args.event) in
    ap₂ (λ (b : BridgeState) (x : Bool). let a : AuditState = record { bridge = b; ended = x } in a)
    (c.in_ok-verdict.ensures.next ∙ ap (λ (x : AuditState). next_judged H x.bridge e) c.self.view_is)
    (ap is_none (sym (ap verdict_in c.in-Forged.is)
    ∙ (c.in_ok-verdict.ensures.verdict ∙ ap (λ (x : AuditState). judged_on H x.bridge e) c.self.view_is)))

pub returns-in_ok-clash-in-Forged-clause-steps : goal.returns-in_ok-clash-in-Forged-clause-steps
returns-in_ok-clash-in-Forged-clause-steps g c =
    let H = g.D.Digester.digest_of in
    let e = event_in (event_of c.args.event) in
    λ judged. absurd (false≢true (ap is_some (sym (ap verdict_in c.in-Forged.is)
    ∙ (c.in_ok-verdict.ensures.verdict ∙ ap (λ (x : AuditState). judged_on H x.bridge e) c.self.view_is)) ∙ judged))

pub returns-in_err-clash-in-Forged-clause-steps : goal.returns-in_err-clash-in-Forged-clause-steps
returns-in_err-clash-in-Forged-clause-steps g c =
    let H = g.D.Digester.digest_of in
    let e = event_in (event_of c.args.event) in
    λ judged. absurd (false≢true (ap is_some (sym (ap verdict_in c.in-Forged.is)
    ∙ (c.in_ok-verdict.ensures.verdict ∙ ap (λ (x : AuditState). judged_on H x.bridge e) c.self.view_is)) ∙ judged))
