use Rattle.std.proofs.Common.{length, vec_capacity, ap, ◌∙◌, arith}
use Rattle.leaf_cache.specs.Parted.{Parted}
use Rattle.cache_update.specs.declared.mark.BlockRoom.{BlockRoom}
use Rattle.cache_update.proofs.Beginning.{begins}
use Rattle.cache_update.proofs.start.begin_with.Goals as goal

pub returns-clause-ok : goal.returns-clause-ok
returns-clause-ok c = begins c.args.targets.now c.args.parts.now
    (record {
      kept = c.reserve.new.self.items;
      held = c.reserve-2.new.self.items;
      kept_room = vec_capacity c.reserve.new.self;
      held_room =
          vec_capacity c.reserve-2.new.self;
    })
    c.args.adds c.args.watched c.args.room c.in_ok-mark.mark c.requires.ordered c.requires.forest c.requires.room c.in_ok-mark.ensures
    (c.reserve.ensures.items ∙ ap (λ (p : Parted). p.kept) c.parts.view_is) (c.reserve-2.ensures.items ∙ ap (λ (p : Parted). p.held) c.parts.view_is)
    (let kept = ap length (c.reserve.ensures.items ∙ ap (λ (p : Parted). p.kept) c.parts.view_is) in
    omega (arith, kept, c.in_ok-reserve.ensures.ok, c.in-Some.ensures.1, c.reserve.new.self.ok.0))
    (let most = ap (λ (r : BlockRoom). r.most) c.deref.ensures in omega (arith, most, c.in_ok-reserve-2.ensures.ok))
