use Rattle.std.proofs.Common.{Err, ap, ◌∙◌}
use Rattle.feed_run.specs.declared.stop.Stop.TheVariants.{ReadFault, NoMemory}
use Rattle.ticket_check.specs.Checking.{check_of}
use Rattle.node_commands.specs.Tickets.{told_as}
use Rattle.node_commands.proofs.TicketLemmas.{serves-as, serves-unread, check-read, check-long, check-quiet}
use Rattle.node_commands.proofs.check.check_read.Goals as goal

pub returns-in-Ok-clause-served : goal.returns-in-Ok-clause-served
returns-in-Ok-clause-served g c =
    let H = g.D.Digester.digest_of in
    let node = c.args.node.now in
    λ out.
    serves-as _ c.args.limit _ (check-quiet H c.args.limit node) _ _ _ _ out c.read_all.ensures.front c.in-Ok.text.items c.in-Ok.ensures.text
    _ (ap (λ x. told_as (check_of H node x)) c.deref.ensures.value ∙ check-read H c.args.limit node c.in-Ok.text.items c.in-Ok.ensures.within)
    c.tell_checked.result c.tell_checked.ensures.status c.tell_checked.ensures.said c.tell_checked.ensures.part c.tell_checked.ensures.read

pub returns-in-Err-Limit-clause-served : goal.returns-in-Err-Limit-clause-served
returns-in-Err-Limit-clause-served g c =
    let H = g.D.Digester.digest_of in
    let node = c.args.node.now in
    let l = c.read_all.ensures.limit (c.in-Err-Limit.is ∙ ap (λ e. Err e) c.in-Err-Limit.field-0-is) in
    λ out.
    serves-as _ c.args.limit _ (check-quiet H c.args.limit node) _ _ _ _ out c.read_all.ensures.front l.text l.told_text
    _ (check-long H c.args.limit node l.text l.longer) c.say.result c.say.ensures.status c.say.ensures.whole c.say.ensures.part c.say.ensures.read

pub returns-in-Err-ReadFault-clause-served : goal.returns-in-Err-ReadFault-clause-served
returns-in-Err-ReadFault-clause-served g c =
    λ out. serves-unread _ c.args.limit _ (check-quiet g.D.Digester.digest_of c.args.limit c.args.node.now) _ _ _ (g.R.Sink.held c.args.report.now)
    out c.read_all.ensures.front ReadFault (λ e. cc)

pub returns-in-Err-NoMemory-clause-served : goal.returns-in-Err-NoMemory-clause-served
returns-in-Err-NoMemory-clause-served g c =
    λ out. serves-unread _ c.args.limit _ (check-quiet g.D.Digester.digest_of c.args.limit c.args.node.now) _ _ _ (g.R.Sink.held c.args.report.now)
    out c.read_all.ensures.front NoMemory (λ e. cc)
