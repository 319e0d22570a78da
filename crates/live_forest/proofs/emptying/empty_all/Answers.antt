use Rattle.std.proofs.Common.{◌∙◌, arith}
use Rattle.live_forest.specs.Rows.{is_one}
use Rattle.live_forest.proofs.Refreshing.{room_kept}
use Rattle.live_forest.proofs.Renewing.{kept_leaves, rows_begin}
use Rattle.live_forest.proofs.emptying.empty_all.Goals as goal

pub empty_each-requires-clause-given : goal.empty_each-requires-clause-given
empty_each-requires-clause-given g c = λ k d lt. omega (arith, c.requires.given k d lt, c.requires.room)

pub renew_rows-requires-clause-room : goal.renew_rows-requires-clause-room
renew_rows-requires-clause-room g c = omega (arith, c.requires.room, c.empty_each.ensures.room.len)

pub renew_rows-requires-clause-listed : goal.renew_rows-requires-clause-listed
renew_rows-requires-clause-listed g c = λ k d lt. c.empty_each.ensures.room.listed _ ∙ c.requires.listed k d lt

pub renew_rows-requires-clause-below : goal.renew_rows-requires-clause-below
renew_rows-requires-clause-below g c =
    rows_begin g.D.Digester.digest_of c.args.n c.args.n c.args.store.now c.empty_each.new.store (is_one c.args.numbers.now) c.requires.right
    c.empty_each.ensures.others (λ r o h none. h)

pub returns-clause-leaves : goal.returns-clause-leaves
returns-clause-leaves g c = kept_leaves c.empty_each.new.store c.renew_rows.new.store c.renew_rows.ensures.kept ∙ c.empty_each.ensures.leaves

pub returns-clause-room : goal.returns-clause-room
returns-clause-room g c =
    room_kept c.args.store.now c.empty_each.new.store c.renew_rows.new.store c.empty_each.ensures.room c.renew_rows.ensures.kept.room
