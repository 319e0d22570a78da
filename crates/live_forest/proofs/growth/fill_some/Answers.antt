use Rattle.std.proofs.Common.{arith}
use Rattle.std.specs.Prelude.{nat_le}
use Rattle.live_forest.proofs.Renewing.{step_more}
use Rattle.live_forest.proofs.Growing.{all_later, spanned_ends}
use Rattle.live_forest.proofs.growth.fill_some.Goals as goal

pub put_waiting-requires-clause-room : goal.put_waiting-requires-clause-room
put_waiting-requires-clause-room g c = omega (arith, c.requires.room, c.gather-next.ensures.step.room.len)

pub returns-clause-filled : goal.returns-clause-filled
returns-clause-filled g c =
    let spanned = c.gather-next.ensures.spanned in
    let w = c.gather-next.new.waiting in
    spanned_ends g.D.Digester.digest_of c.args.n c.args.before c.gather-next.new.store c.put_waiting.new.store c.args.row c.args.from
    c.gather-next.result w (c.put_waiting.ensures.step (nat_le c.args.before) (all_later c.args.before w.numbers w.count spanned.all))
    c.put_waiting.ensures.done spanned

pub returns-clause-step : goal.returns-clause-step
returns-clause-step g c =
    let w = c.gather-next.new.waiting in
    step_more g.D.Digester.digest_of (nat_le c.args.before) c.args.row c.args.store.now c.gather-next.new.store c.put_waiting.new.store
    c.gather-next.ensures.step
    (c.put_waiting.ensures.step (nat_le c.args.before) (all_later c.args.before w.numbers w.count c.gather-next.ensures.spanned.all))
