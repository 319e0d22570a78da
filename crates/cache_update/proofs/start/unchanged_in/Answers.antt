use Rattle.std.proofs.Common.{vec_capacity, ap, ◌∙◌, arith}
use Rattle.leaf_cache.specs.Parted.{Parted}
use Rattle.cache_update.proofs.Idle.{idle_kept, idle_held, idle_fits}
use Rattle.cache_update.proofs.start.unchanged_in.Goals as goal

pub returns-clause-fits : goal.returns-clause-fits
returns-clause-fits c = idle_fits 0 0 c.idle_mark.result c.args.parts.now
    (record {
      kept = c.reserve.new.self.items;
      held = c.reserve-2.new.self.items;
      kept_room = vec_capacity c.reserve.new.self;
      held_room =
          vec_capacity c.reserve-2.new.self;
    })
    c.idle_mark.ensures c.requires.kept c.requires.held (c.reserve.ensures.items ∙ ap (λ (p : Parted). p.kept) c.parts.view_is)
    (c.reserve-2.ensures.items ∙ ap (λ (p : Parted). p.held) c.parts.view_is)
    (omega (arith, c.in_ok-reserve.ensures.ok)) (omega (arith, c.in_ok-reserve-2.ensures.ok))

pub returns-clause-kept_back : goal.returns-clause-kept_back
returns-clause-kept_back c = idle_kept 0 0 c.idle_mark.result c.args.parts.now
    (record {
      kept = c.reserve.new.self.items;
      held = c.reserve-2.new.self.items;
      kept_room = vec_capacity c.reserve.new.self;
      held_room =
          vec_capacity c.reserve-2.new.self;
    })
    c.idle_mark.ensures c.requires.kept c.requires.held (c.reserve.ensures.items ∙ ap (λ (p : Parted). p.kept) c.parts.view_is)
    (c.reserve-2.ensures.items ∙ ap (λ (p : Parted). p.held) c.parts.view_is)

pub returns-clause-held_back : goal.returns-clause-held_back
returns-clause-held_back c = idle_held 0 0 c.idle_mark.result c.args.parts.now
    (record {
      kept = c.reserve.new.self.items;
      held = c.reserve-2.new.self.items;
      kept_room = vec_capacity c.reserve.new.self;
      held_room =
          vec_capacity c.reserve-2.new.self;
    })
    c.idle_mark.ensures c.requires.kept c.requires.held (c.reserve.ensures.items ∙ ap (λ (p : Parted). p.kept) c.parts.view_is)
    (c.reserve-2.ensures.items ∙ ap (λ (p : Parted). p.held) c.parts.view_is)
