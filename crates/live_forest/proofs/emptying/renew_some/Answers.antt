use Rattle.std.proofs.Common.{arith}
use Rattle.live_forest.specs.Rows.{is_one}
use Rattle.live_forest.proofs.Renewing.{step_more, taken_ends}
use Rattle.live_forest.proofs.emptying.renew_some.Goals as goal

pub put_waiting-requires-clause-room : goal.put_waiting-requires-clause-room
put_waiting-requires-clause-room g c = omega (arith, c.requires.room, c.gather-next.ensures.step.room.len)

pub returns-clause-done : goal.returns-clause-done
returns-clause-done g c =
    let ns = c.args.numbers.now in
    let taken = c.gather-next.ensures.taken in
    taken_ends g.D.Digester.digest_of c.args.n c.gather-next.new.store c.put_waiting.new.store ns c.args.row c.gather-next.result
    c.gather-next.new.waiting (c.put_waiting.ensures.step (is_one ns) taken.all) c.put_waiting.ensures.done taken

pub returns-clause-step : goal.returns-clause-step
returns-clause-step g c =
    let ns = c.args.numbers.now in
    step_more g.D.Digester.digest_of (is_one ns) c.args.row c.args.store.now c.gather-next.new.store c.put_waiting.new.store
    c.gather-next.ensures.step (c.put_waiting.ensures.step (is_one ns) c.gather-next.ensures.taken.all)
