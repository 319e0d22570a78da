use Rattle.std.proofs.Common.{arith}
use Rattle.cache_update.specs.GappedList.{around}
use Rattle.cache_update.proofs.Gapped.{room_between}
use Rattle.cache_update.proofs.undoing.undo_around.Goals as goal

pub put_back_lost-requires-clause-room : goal.put_back_lost-requires-clause-room
put_back_lost-requires-clause-room c = room_between c.args.lost.now c.args.gained.now (around c.args.gap.from c.args.gap.to c.args.list.now) _ _ _
    c.take_out_gained-without.ensures.items (omega (arith, c.take_out_gained-without.auto.list)) c.requires.room
