use Rattle.std.proofs.Common.{Err, inr, sym, ap, ◌∙◌}
use Rattle.std.proofs.KnownBytes.{Appends-nil}
use Rattle.uo_base.proofs.PortLemmas.{AppendsPart-none}
use Rattle.node_commands.proofs.ServeLemmas.{last-line, last-end, OnOk-any, serves-stopped, serves-last}
use Rattle.node_commands.proofs.serve.serve.Goals as goal

pub returns-in_err-ending-clause-served : goal.returns-in_err-ending-clause-served
returns-in_err-ending-clause-served g c =
    serves-stopped _ _ _ _ _ _ _ _ _ _ c.from_residual.result c.in_err-ending.field-0.0 c.from_residual.ensures.0 c.from_residual.ensures.1
    c.in_err-ending.ensures.stopped
    (λ e. c.in_err-ending.ensures.taken (ap Err e)) (λ e. c.in_err-ending.ensures.at_once (ap Err e))

pub returns-in-Some-clause-served : goal.returns-in-Some-clause-served
returns-in-Some-clause-served g c =
    serves-last _ _ _ _ _ _ _ _ _ _ _ _ _ _ c.in_ok-ending.ensures.ended _
    (last-line _ _ c.in-Some.status c.in-Some.line (sym c.bad_end.ensures ∙ c.in-Some.is)) c.say.result
    c.say.ensures.status c.say.ensures.whole (OnOk-any c.say.result (Appends-nil _)) c.say.ensures.part (AppendsPart-none _ _) (inr (Appends-nil _))
    c.say.ensures.read c.in_ok-ending.ensures.kept_up c.in_ok-ending.ensures.wanted (λ none same. same)

pub returns-in-None-clause-served : goal.returns-in-None-clause-served
returns-in-None-clause-served g c =
    serves-last _ _ _ _ _ _ _ _ _ _ _ _ _ _ c.in_ok-ending.ensures.ended _ (last-end _ _ (sym c.bad_end.ensures ∙ c.in-None.is)) c.finish.result
    c.finish.ensures.status c.finish.ensures.said c.finish.ensures.sent c.finish.ensures.part_said c.finish.ensures.part_sent c.finish.ensures.order
    c.finish.ensures.read c.in_ok-ending.ensures.kept_up c.in_ok-ending.ensures.wanted (λ none same. c.finish.ensures.untouched none ∙ same)
