use Rattle.std.proofs.Common.{◌+◌, Some, sym, ◌∙◌, subst, arith}
use Rattle.live_forest.specs.Parts.{leaves_of, AreParts, ArePartsBut, IsClimbed}
use Rattle.live_forest.proofs.Refreshing.{but_added, leaves_put, length-leaves_of, room_kept}
use Rattle.live_forest.proofs.refresh.put_next.Goals as goal

pub refresh_last-requires-clause-right : goal.refresh_last-requires-clause-right
refresh_last-requires-clause-right g c =
    let s = c.args.store.now in
    let s' = c.put_entry.new.self in
    let H = g.D.Digester.digest_of in
    subst (λ l. ArePartsBut H (c.args.n + 1) l s' c.args.n 0)
    (sym (leaves_put s s' c.args.n (Some c.args.digest) c.requires.room c.put_entry.ensures.put c.put_entry.ensures.room.len))
    (but_added H c.args.n (leaves_of s) s s' (Some c.args.digest) (omega (arith, c.requires.room, length-leaves_of s)) c.put_entry.ensures.put
    c.requires.right)

pub returns-clause-leaves : goal.returns-clause-leaves
returns-clause-leaves g c =
    c.refresh_last.ensures.leaves ∙ leaves_put c.args.store.now c.put_entry.new.self c.args.n (Some c.args.digest) c.requires.room
    c.put_entry.ensures.put c.put_entry.ensures.room.len

pub returns-clause-right : goal.returns-clause-right
returns-clause-right g c =
    subst (λ l. AreParts g.D.Digester.digest_of (c.args.n + 1) l c.refresh_last.new.store) (sym c.refresh_last.ensures.leaves)
    c.refresh_last.ensures.right

pub returns-clause-room : goal.returns-clause-room
returns-clause-room g c =
    room_kept c.args.store.now c.put_entry.new.self c.refresh_last.new.store c.put_entry.ensures.room c.refresh_last.ensures.room

pub returns-clause-cost : goal.returns-clause-cost
returns-clause-cost g c =
    subst (λ l. IsClimbed (c.args.n + 1) l c.args.n c.args.steps.now c.refresh_last.new.steps) (sym c.refresh_last.ensures.leaves)
    c.refresh_last.ensures.cost
