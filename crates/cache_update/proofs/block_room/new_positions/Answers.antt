use Rattle.std.proofs.Common.{sym, ◌∙◌, arith}
use Rattle.cache_model.specs.declared.kept.Kept.{Kept}
use Rattle.cache_update.specs.Begun.{new_position}
use Rattle.cache_update.proofs.Passes.{gather_end}
use Rattle.cache_update.proofs.Beginning.{positions_are}
use Rattle.cache_update.proofs.block_room.new_positions.Goals as goal

pub returns : goal.returns
returns c =
    sym (c.loop-i.invariant ∙ gather_end (λ (k : Kept). new_position c.args.targets.now.leaves c.args.targets.now.targets k.place) c.args.kept.now
    c.loop-i.positions.items c.loop-i.i (omega arith))
    ∙ positions_are c.args.targets.now.leaves c.args.targets.now.targets c.args.kept.now
