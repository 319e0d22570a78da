use Rattle.std.proofs.Common.{◌≡◌, suc, ◌+◌, ◌/◌, ◌^◌, ◌∙◌, subst, arith}
use Rattle.std.specs.Prelude.{nat_le}
use Rattle.live_forest.specs.Rows.{AreBelow, AreFilled}
use Rattle.live_forest.proofs.Renewing.{step_same, step_more}
use Rattle.live_forest.proofs.Growing.{parts_fewer, filled_more, filled_ends}
use Rattle.live_forest.proofs.growth.fill_row.Goals as goal

pub loop-next-init : goal.loop-next-init
loop-next-init g c = record {
  filled = λ o ge lt. absurd (omega (arith, ge, lt, c.part_of-next.ensures));
  step = step_same g.D.Digester.digest_of (nat_le c.args.before) c.args.row c.args.store.now;
  waiting = c.requires.waiting;
  first = omega (arith, c.part_of-next.ensures);
  within = omega (arith, c.part_of-next.ensures, parts_fewer c.args.before c.args.n (suc c.args.row) c.requires.before);
  cost = omega (arith, c.part_of-next.ensures);
}

pub fill_some-next-requires-clause-room : goal.fill_some-next-requires-clause-room
fill_some-next-requires-clause-room g c = omega (arith, c.requires.room, c.loop-next.invariant.step.room.len)

pub fill_some-next-requires-clause-listed : goal.fill_some-next-requires-clause-listed
fill_some-next-requires-clause-listed g c = λ i ge lt. c.loop-next.invariant.step.room.listed i ∙ c.requires.listed i ge lt

pub loop-next-preserved : goal.loop-next-preserved
loop-next-preserved g c = record {
  filled = filled_more g.D.Digester.digest_of c.args.n c.args.before c.loop-next.store c.fill_some-next.new.store c.args.row
      (c.args.before / 2 ^ suc c.args.row) c.loop-next.next c.fill_some-next.result c.fill_some-next.ensures.step
      c.loop-next.invariant.filled c.fill_some-next.ensures.filled;
  step = step_more g.D.Digester.digest_of (nat_le c.args.before) c.args.row c.args.store.now c.loop-next.store c.fill_some-next.new.store
      c.loop-next.invariant.step c.fill_some-next.ensures.step;
  waiting = c.fill_some-next.ensures.waiting;
  first = omega (arith, c.loop-next.invariant.first, c.fill_some-next.ensures.on);
  within = c.fill_some-next.ensures.within;
  cost = omega (arith, c.fill_some-next.ensures.cost, c.loop-next.invariant.cost);
}

pub returns-clause-below : goal.returns-clause-below
returns-clause-below g c =
    let H = g.D.Digester.digest_of in
    let row = c.args.row in
    let before = c.args.before in
    let s = c.loop-next.store in
    let e : suc row ≡ row + 1 = omega arith in
    let all : c.loop-next.next ≡ c.args.n / 2 ^ suc row =
    omega (arith, c.loop-next-test.false, c.part_of-end.ensures, c.loop-next.invariant.within) in
    subst (λ k. AreBelow H c.args.n s (nat_le before) k) e
    (filled_ends H c.args.n before c.args.store.now s row c.requires.below c.loop-next.invariant.step
    (subst (λ x. AreFilled H s row (before / 2 ^ suc row) x) all c.loop-next.invariant.filled))

pub returns-clause-cost : goal.returns-clause-cost
returns-clause-cost g c = omega (arith, c.loop-next.invariant.cost, c.loop-next.invariant.within)
