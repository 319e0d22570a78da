use Rattle.std.proofs.Common.{◌+◌, length, take, ap, ◌∙◌, arith}
use Rattle.std.specs.Prelude.{nat_le}
use Rattle.live_forest.proofs.Refreshing.{room_kept}
use Rattle.live_forest.proofs.Renewing.{kept_leaves, rows_begin}
use Rattle.live_forest.proofs.Growing.{was_whole}
use Rattle.live_forest.proofs.growth.put_all.Goals as goal

pub fill_rows-requires-clause-room : goal.fill_rows-requires-clause-room
fill_rows-requires-clause-room g c = omega (arith, c.requires.room, c.append_each.ensures.room.len)

pub fill_rows-requires-clause-listed : goal.fill_rows-requires-clause-listed
fill_rows-requires-clause-listed g c = λ i ge lt. c.append_each.ensures.room.listed i ∙ c.requires.listed i ge lt

pub fill_rows-requires-clause-below : goal.fill_rows-requires-clause-below
fill_rows-requires-clause-below g c =
    let n = c.args.n in
    let m = n + length c.args.added.now in
    rows_begin g.D.Digester.digest_of n m c.args.store.now c.append_each.new.store (nat_le n) c.requires.right c.append_each.ensures.others
    (λ r o h none. was_whole n m r o h none)

pub returns-clause-leaves : goal.returns-clause-leaves
returns-clause-leaves g c =
    ap (take (c.args.n + length c.args.added.now)) (kept_leaves c.append_each.new.store c.fill_rows.new.store c.fill_rows.ensures.kept)
    ∙ c.append_each.ensures.leaves

pub returns-clause-room : goal.returns-clause-room
returns-clause-room g c =
    room_kept c.args.store.now c.append_each.new.store c.fill_rows.new.store c.append_each.ensures.room c.fill_rows.ensures.kept.room
