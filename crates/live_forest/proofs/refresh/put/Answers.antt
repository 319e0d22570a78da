use Rattle.std.proofs.Common.{◌<◌, sym, ◌∙◌, subst, arith}
use Rattle.live_forest.specs.Parts.{leaves_of, AreParts, ArePartsBut}
use Rattle.live_forest.proofs.Refreshing.{but_any, but_written, leaves_put, length-leaves_of, room_kept}
use Rattle.live_forest.proofs.Counting.{climbed_few}
use Rattle.live_forest.proofs.refresh.put.Goals as goal

pub refresh-requires-clause-right : goal.refresh-requires-clause-right
refresh-requires-clause-right g c =
    let s = c.args.store.now in
    let s' = c.put_entry.new.self in
    let H = g.D.Digester.digest_of in
    let low : c.args.number < s.len = omega (arith, c.requires.number, c.requires.room) in
    subst (λ l. ArePartsBut H c.args.n l s' c.args.number 0)
    (sym (leaves_put s s' c.args.number c.args.entry low c.put_entry.ensures.put c.put_entry.ensures.room.len))
    (but_written H c.args.n (leaves_of s) s s' c.args.number c.args.entry (omega (arith, low, length-leaves_of s)) c.put_entry.ensures.put
    (but_any H c.args.n (leaves_of s) s c.args.number c.requires.right))

pub returns-clause-leaves : goal.returns-clause-leaves
returns-clause-leaves g c =
    let s = c.args.store.now in
    let low : c.args.number < s.len = omega (arith, c.requires.number, c.requires.room) in
    c.refresh.ensures.leaves ∙ leaves_put s c.put_entry.new.self c.args.number c.args.entry low c.put_entry.ensures.put c.put_entry.ensures.room.len

pub returns-clause-right : goal.returns-clause-right
returns-clause-right g c =
    subst (λ l. AreParts g.D.Digester.digest_of c.args.n l c.refresh.new.store) (sym c.refresh.ensures.leaves) c.refresh.ensures.right

pub returns-clause-room : goal.returns-clause-room
returns-clause-room g c = room_kept c.args.store.now c.put_entry.new.self c.refresh.new.store c.put_entry.ensures.room c.refresh.ensures.room

pub returns-clause-cost : goal.returns-clause-cost
returns-clause-cost g c = climbed_few c.args.n _ c.args.number c.args.steps.now c.refresh.new.steps c.refresh.ensures.cost
