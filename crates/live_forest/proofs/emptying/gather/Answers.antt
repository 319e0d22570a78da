use Rattle.std.proofs.Common.{◌∙◌, arith}
use Rattle.live_forest.specs.Rows.{is_one}
use Rattle.live_forest.proofs.Renewing.{step_same, step_more, taken_begins}
use Rattle.live_forest.proofs.emptying.gather.Goals as goal

pub loop-next-init : goal.loop-next-init
loop-next-init g c = record {
  taken = taken_begins g.D.Digester.digest_of c.args.n c.args.store.now c.args.numbers.now c.args.row c.args.from c.args.waiting.now
      c.requires.waiting c.requires.done;
  step = step_same g.D.Digester.digest_of (is_one c.args.numbers.now) c.args.row c.args.store.now;
  few = omega arith;
  within = omega (arith, c.requires.from);
}

pub take_in-requires-clause-room : goal.take_in-requires-clause-room
take_in-requires-clause-room g c = omega (arith, c.requires.room, c.loop-next.invariant.step.room.len)

pub take_in-requires-clause-listed : goal.take_in-requires-clause-listed
take_in-requires-clause-listed g c = λ k d lt. c.loop-next.invariant.step.room.listed _ ∙ c.requires.listed k d lt

pub loop-next-preserved : goal.loop-next-preserved
loop-next-preserved g c = record {
  taken = c.take_in.ensures.taken;
  step = step_more g.D.Digester.digest_of (is_one c.args.numbers.now) c.args.row c.args.store.now c.loop-next.store c.take_in.new.store
      c.loop-next.invariant.step c.take_in.ensures.step;
  few = omega (arith, c.take_in.ensures.few, c.loop-next.invariant.few);
  within = omega (arith, c.loop-next-test.true);
}
