use Rattle.std.proofs.Common.{arith}
use Rattle.cache_update.proofs.Growing.{kept_short}
use Rattle.cache_update.proofs.back.step_back.Goals as goal

pub undo_kept-requires-clause-room : goal.undo_kept-requires-clause-room
undo_kept-requires-clause-room c =
    let short = kept_short c.in_ok-taken.taken.items c.deref-2.result.now c.deref-3.result.now c.reserve.new.self.items in
    omega (arith, short, c.in_ok-reserve.ensures.ok, c.len.ensures, c.in_ok-taken.taken.ok.0, c.reserve.new.self.ok.0)
