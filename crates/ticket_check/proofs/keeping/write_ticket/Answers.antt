use Rattle.ticket_check.proofs.KeptTickets.{low_so}
use Rattle.ticket_check.proofs.keeping.write_ticket.Goals as goal

pub fixed_position-requires-clause-row : goal.fixed_position-requires-clause-row
fixed_position-requires-clause-row g c =
    (low_so c.args.node.now c.args.number _ c.entry.result c.in-Some.entry c.chain-chain.ensures.node c.cache-cache.ensures.kept c.entry.ensures
    c.in-Some.is).0

pub fixed_position-requires-clause-off : goal.fixed_position-requires-clause-off
fixed_position-requires-clause-off g c =
    (low_so c.args.node.now c.args.number _ c.entry.result c.in-Some.entry c.chain-chain.ensures.node c.cache-cache.ensures.kept c.entry.ensures
    c.in-Some.is).1
