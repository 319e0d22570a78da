use Rattle.std.proofs.Common.{◌∙◌, sym}
use Rattle.ticket_check.specs.Checking.{view_in}
use Rattle.ticket_check.proofs.Tickets.{live_is_accepted}
use Rattle.ticket_check.proofs.checking.rechecked.Goals as goal

pub clash_of-requires-clause-accepted : goal.clash_of-requires-clause-accepted
clash_of-requires-clause-accepted g c =
    let H = g.D.Digester.digest_of in
    let s = c.args.bridge.now in
    (live_is_accepted H (view_in H s) s.chain.tip c.args.ticket.now).0 (sym c.in_ok-verdict_of.ensures ∙ c.in-Live.is)
