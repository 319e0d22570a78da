use Rattle.std.proofs.Common.{◌≡◌, suc, ◌+◌, ◌∙◌, subst, arith}
use Rattle.live_forest.specs.Rows.{is_one, AreBelow}
use Rattle.live_forest.proofs.Renewing.{step_same, step_more, done_ends}
use Rattle.live_forest.proofs.emptying.renew_row.Goals as goal

pub loop-next-init : goal.loop-next-init
loop-next-init g c = record {
  done = λ k lt h. absurd (omega (arith, lt));
  step = step_same g.D.Digester.digest_of (is_one c.args.numbers.now) c.args.row c.args.store.now;
  waiting = c.requires.waiting;
  within = omega arith;
  cost = omega arith;
}

pub renew_some-next-requires-clause-room : goal.renew_some-next-requires-clause-room
renew_some-next-requires-clause-room g c = omega (arith, c.requires.room, c.loop-next.invariant.step.room.len)

pub renew_some-next-requires-clause-listed : goal.renew_some-next-requires-clause-listed
renew_some-next-requires-clause-listed g c = λ k d lt. c.loop-next.invariant.step.room.listed _ ∙ c.requires.listed k d lt

pub loop-next-preserved : goal.loop-next-preserved
loop-next-preserved g c = record {
  done = c.renew_some-next.ensures.done;
  step = step_more g.D.Digester.digest_of (is_one c.args.numbers.now) c.args.row c.args.store.now c.loop-next.store c.renew_some-next.new.store
      c.loop-next.invariant.step c.renew_some-next.ensures.step;
  waiting = c.renew_some-next.ensures.waiting;
  within = c.renew_some-next.ensures.within;
  cost = omega (arith, c.renew_some-next.ensures.cost, c.loop-next.invariant.cost);
}

pub returns-clause-below : goal.returns-clause-below
returns-clause-below g c =
    let e : suc c.args.row ≡ c.args.row + 1 = omega arith in
    subst (λ k. AreBelow g.D.Digester.digest_of c.args.n c.loop-next.store (is_one c.args.numbers.now) k) e
    (done_ends g.D.Digester.digest_of c.args.n c.args.store.now c.loop-next.store c.args.numbers.now c.args.row c.loop-next.next
    c.requires.below c.loop-next.invariant.step c.loop-next.invariant.done (omega (arith, c.loop-next-test.false)))
