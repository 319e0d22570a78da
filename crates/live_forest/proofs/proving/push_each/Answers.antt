use Rattle.live_forest.proofs.Placing.{pushed_more}
use Rattle.live_forest.proofs.proving.push_each.Goals as goal

pub loop-preserved : goal.loop-preserved
loop-preserved c = pushed_more c.args.place c.args.numbers.now c.loop.index c.args.places.now.items c.loop.places.items c.push.new.self.items
    c.loop-test.true c.in_ok-push.ensures.items c.loop.invariant
