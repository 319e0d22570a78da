use Rattle.std.proofs.Common.{vec_capacity, ap, ◌∙◌, arith}
use Rattle.leaf_cache.specs.Parted.{Parted}
use Rattle.cache_update.proofs.Idle.{idle_begins}
use Rattle.cache_update.proofs.start.begin_idle.Goals as goal

pub returns-clause-ok : goal.returns-clause-ok
returns-clause-ok c = idle_begins c.leaves.result c.args.adds c.idle_mark.result c.args.parts.now
    (record {
      kept = c.reserve.new.self.items;
      held = c.reserve-2.new.self.items;
      kept_room = vec_capacity c.reserve.new.self;
      held_room =
          vec_capacity c.reserve-2.new.self;
    })
    c.idle_mark.ensures c.requires.nothing_kept c.requires.nothing_held (c.reserve.ensures.items ∙ ap (λ (p : Parted). p.kept) c.parts.view_is)
    (c.reserve-2.ensures.items ∙ ap (λ (p : Parted). p.held) c.parts.view_is)
    c.args.targets.now c.args.watched c.leaves.ensures.is c.requires.adds c.requires.watched
    (omega (arith, c.in_ok-reserve.ensures.ok)) (omega (arith, c.in_ok-reserve-2.ensures.ok))
