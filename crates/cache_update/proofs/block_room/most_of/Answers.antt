use Rattle.std.proofs.Common.{length, ap, ◌+◌, arith}
use Rattle.forest_model.specs.Cover.{need}
use Rattle.cache_update.proofs.Growing.{hold_known}
use Rattle.cache_update.proofs.block_room.most_of.Goals as goal

pub returns-clause-known : goal.returns-clause-known
returns-clause-known c =
    let known = c.in_ok-known.ensures in
    let added = c.in_ok-added.ensures in
    let times = c.in_ok-checked_mul.ensures in
    let most = c.in_ok-most.ensures in
    let needed = ap length c.needed.ensures in (
      length c.covered.result.0.now + length (need c.args.kept.now.leaves c.args.kept.now.targets),
      hold_known c.args.kept.now.leaves c.args.kept.now.targets c.covered.result.0.now c.covered.ensures.is,
      omega (arith, known.1, added.1, times.1, most.1, c.max.ensures, needed),
    )
