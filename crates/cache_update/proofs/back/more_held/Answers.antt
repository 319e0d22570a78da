use Rattle.std.proofs.Common.{Option, length, ap, arith}
use Rattle.cache_update.specs.Marks.{BoxedRoom, held_from}
use Rattle.cache_update.proofs.Growing.{held_short}
use Rattle.cache_update.proofs.back.more_held.Goals as goal

pub returns-in-None-clause-most : goal.returns-in-None-clause-most
returns-in-None-clause-most c = λ hs.
    let short = held_short c.args.mark.now.lost.items c.args.mark.now.gained.items hs in
    let same = ap (λ (r : Option BoxedRoom). length (held_from r c.args.mark.now.lost.items c.args.mark.now.gained.items hs)) c.in-None.is in
    omega (arith, short, same, c.len-in-None.ensures, c.args.mark.now.lost.ok.0)
