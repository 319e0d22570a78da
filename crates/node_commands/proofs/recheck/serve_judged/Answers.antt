use Rattle.std.proofs.Common.{Err, refl, sym, ap, ◌∙◌}
use Rattle.node_commands.specs.Rechecking.{recheck_machine}
use Rattle.node_commands.proofs.RecheckLemmas.{serves-quietly, serves-judged, end-quiet}
use Rattle.node_commands.proofs.ServeLemmas.{last-line, last-end, serves-stopped}
use Rattle.node_commands.proofs.recheck.serve_judged.Goals as goal

pub returns-in_err-ending-clause-served : goal.returns-in_err-ending-clause-served
returns-in_err-ending-clause-served g c =
    λ out.
    serves-quietly g.D.Digester.digest_of c.args.rechecker.now c.args.net c.args.bytes out _ _
    (serves-stopped (recheck_machine g.D.Digester.digest_of) c.args.rechecker.now c.args.net c.args.bytes _ _ _ _ _ _ c.from_residual.result
    c.in_err-ending.field-0.0 c.from_residual.ensures.0 c.from_residual.ensures.1 c.in_err-ending.ensures.stopped
    (λ e. c.in_err-ending.ensures.taken (ap Err e)) (λ e. c.in_err-ending.ensures.at_once (ap Err e)))

pub returns-in-Some-clause-served : goal.returns-in-Some-clause-served
returns-in-Some-clause-served g c =
    λ out.
    serves-judged g.D.Digester.digest_of c.args.rechecker.now c.args.net c.args.bytes _ _ _ _ _ _ _ _ _ c.in_ok-ending.ensures.ended _
    (last-line _ _ c.in-Some.status c.in-Some.line (sym c.bad_end.ensures ∙ c.in-Some.is)) refl out c.say.result c.say.ensures.status
    c.say.ensures.whole c.say.ensures.part c.say.ensures.read c.in_ok-ending.ensures.kept_up c.in_ok-ending.ensures.wanted

pub returns-clause-served : goal.returns-clause-served
returns-clause-served g c =
    λ out.
    serves-judged g.D.Digester.digest_of c.args.rechecker.now c.args.net c.args.bytes _ _ _ _ _ _ _ _ _ c.in_ok-ending.ensures.ended _
    (last-end _ _ (sym c.bad_end.ensures ∙ c.in-None.is)) (end-quiet g.D.Digester.digest_of c.handle_feed.new.handler) out c.tell_judged.result
    c.tell_judged.ensures.status c.tell_judged.ensures.said c.tell_judged.ensures.part c.tell_judged.ensures.read c.in_ok-ending.ensures.kept_up
    c.in_ok-ending.ensures.wanted
