use Rattle.std.proofs.Common.{arith}
use Rattle.ticket_check.proofs.Tickets.{target_found, none_found, none_repeated, none_beneath}
use Rattle.ticket_check.proofs.target.target_at.Goals as goal

pub returns-in-Ok : goal.returns-in-Ok
returns-in-Ok c = target_found c.args.n c.args.number c.in-Ok.targets (omega (arith, c.requires)) c.in-Ok.ensures.0 c.in-Ok.ensures.1

pub returns-in-Err-Outside : goal.returns-in-Err-Outside
returns-in-Err-Outside c = none_found c.args.n c.args.number _ c.in-Err-Outside.field-0 c.in-Err-Outside.field-0-is c.in-Err-Outside.ensures

pub unreachable-requires : goal.unreachable-requires
unreachable-requires c = none_repeated c.args.n c.args.number _ _ c.in-Err-Repeated.field-0 c.in-Err-Repeated.field-0-is c.in-Err-Repeated.ensures

pub unreachable-requires-in-Err-Beneath : goal.unreachable-requires-in-Err-Beneath
unreachable-requires-in-Err-Beneath c = none_beneath c.args.n c.args.number _ _ c.in-Err-Beneath.field-0 c.in-Err-Beneath.field-0-is
    c.in-Err-Beneath.ensures
