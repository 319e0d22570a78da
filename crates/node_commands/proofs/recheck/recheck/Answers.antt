use Rattle.std.proofs.Common.{Ok, Err, inl, subst, ◌∙◌, ap₂}
use Rattle.uo_base.proofs.PortLemmas.{told_text, Tells-told_text}
use Rattle.node_commands.specs.PriorText.{IsPriorRead}
use Rattle.node_commands.specs.Rechecking.{Rechecked, fresh_rechecker, rechecking}
use Rattle.node_commands.specs.Watching.{IsListOf}
use Rattle.node_commands.proofs.RanLemmas.{ran-unbegun, ran-refusing, ran-begun}
use Rattle.node_commands.proofs.RecheckLemmas.{start-long, start-read, recheck-serves}
use Rattle.node_commands.proofs.recheck.recheck.Goals as goal

pub returns-in_err-ticket-clause-ran : goal.returns-in_err-ticket-clause-ran
returns-in_err-ticket-clause-ran g c = λ out. ran-unbegun _ _ _ _ _ _ _ _ c.from_residual.ensures.0 tt

pub returns-in-Err-clause-ran : goal.returns-in-Err-clause-ran
returns-in-Err-clause-ran g c =
    λ out.
    let s = subst (IsPriorRead _ _) c.in-Err.is c.in_ok-ticket.ensures.text in
    let list = g.W.Source.left c.args.list.now in
    ran-refusing (rechecking g.D.Digester.digest_of c.args.limits c.args.net c.args.named) _ _ list s.text (told_text list) s.told
    (Tells-told_text list) c.in-Err.bad
    (start-long c.args.named c.args.limits.bytes s.text (told_text list) c.in-Err.bad s.is.0 s.is.1) _ _ _ _ c.say.result c.say.ensures.status
    c.say.ensures.whole c.say.ensures.part tt

pub returns-in_err-watch-clause-ran : goal.returns-in_err-watch-clause-ran
returns-in_err-watch-clause-ran g c = λ out. ran-unbegun _ _ _ _ _ _ _ _ c.from_residual-in_err-watch.ensures.0 tt

pub returns-in-Err-2-clause-ran : goal.returns-in-Err-2-clause-ran
returns-in-Err-2-clause-ran g c =
    λ out.
    let s = subst (IsPriorRead _ _) c.in-Ok.is c.in_ok-ticket.ensures.text in
    let l = subst (IsListOf _ _ _) c.in-Err-2.is c.in_ok-watch.ensures.list in
    ran-refusing (rechecking g.D.Digester.digest_of c.args.limits c.args.net c.args.named) _ _ _ s.text l.text s.told l.told c.in-Err-2.bad
    (start-read c.args.named c.args.limits.bytes s.text l.text (Err c.in-Err-2.bad) s.is.1 l.is) _ _ _ _ c.say-in-Err-2.result
    c.say-in-Err-2.ensures.status c.say-in-Err-2.ensures.whole c.say-in-Err-2.ensures.part tt

pub returns-in_err-rechecker-clause-ran : goal.returns-in_err-rechecker-clause-ran
returns-in_err-rechecker-clause-ran g c = λ out. ran-unbegun _ _ _ _ _ _ _ _ c.from_residual-in_err-rechecker.ensures.0 tt

pub returns-clause-ran : goal.returns-clause-ran
returns-clause-ran g c =
    λ out.
    let s = subst (IsPriorRead _ _) c.in-Ok.is c.in_ok-ticket.ensures.text in
    let l = subst (IsListOf _ _ _) c.in-Ok-2.is c.in_ok-watch.ensures.list in
    let begun : Rechecked = record { ticket = s.text; list = c.in-Ok-2.watch } in
    ran-begun (rechecking g.D.Digester.digest_of c.args.limits c.args.net c.args.named) _ _ _ s.text l.text s.told l.told begun
    (start-read c.args.named c.args.limits.bytes s.text l.text (Ok c.in-Ok-2.watch) s.is.1 l.is) _ _
    (recheck-serves g.D.Digester.digest_of c.args.limits c.requires.leaves c.args.net begun _
    (c.in_ok-rechecker.ensures ∙ ap₂ (fresh_rechecker c.args.net c.args.limits) c.watched-watch.ensures s.is.0) _ _
    (c.serve_judged.ensures.served out))

pub returns-clause-read : goal.returns-clause-read
returns-clause-read g c = λ failed. inl (c.serve_judged.ensures.read failed)
