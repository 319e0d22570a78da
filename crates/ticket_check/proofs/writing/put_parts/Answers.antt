use Rattle.ticket_check.specs.Tickets.{Ticket}
use Rattle.ticket_check.proofs.TicketLaws.{parts_told}
use Rattle.ticket_check.proofs.writing.put_parts.Goals as goal

pub returns-clause-ok : goal.returns-clause-ok
returns-clause-ok c =
    let k : Ticket = record { tip = c.args.tip; target = c.args.target; leaf = c.args.leaf.now; hashes = c.args.hashes.now } in
    parts_told k _ _ _ _ c.in_ok-put_front.ensures.ok c.in_ok-put_leaf.ensures.ok c.in_ok-put_hashes.ensures.ok
