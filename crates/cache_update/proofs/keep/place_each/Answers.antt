use Rattle.std.proofs.Common.{arith}
use Rattle.cache_update.proofs.Keeps.{placed_on, placed_end}
use Rattle.cache_update.proofs.keep.place_each.Goals as goal

pub loop-i-preserved : goal.loop-i-preserved
loop-i-preserved c = record {
  done = placed_on c.args.kept.now.items c.args.places.now c.loop-i.kept.items c.loop-i.i c.index_mut.result.now c.index_mut.result.now _
      (omega arith) (omega (arith, c.requires, c.loop-i.invariant.same, c.loop-i-test.true)) c.index_mut.ensures.value c.index_mut.ensures.value
      c.loop-i.invariant.done;
  same = c.loop-i.invariant.same;
  room = c.loop-i.invariant.room;
}

pub returns-clause-items : goal.returns-clause-items
returns-clause-items c = placed_end c.args.kept.now.items c.args.places.now c.loop-i.kept.items c.loop-i.i (omega arith) c.loop-i.invariant.done
