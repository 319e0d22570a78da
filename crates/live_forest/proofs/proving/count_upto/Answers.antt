use Rattle.std.proofs.Common.{arith}
use Rattle.live_forest.proofs.Parting.{parted_upto}
use Rattle.live_forest.proofs.proving.count_upto.Goals as goal

pub returns-else-numbers-count-clause-upto : goal.returns-else-numbers-count-clause-upto
returns-else-numbers-count-clause-upto c = (parted_upto c.args.numbers.now c.args.row c.args.off c.loop-count.count c.requires.rise
    c.loop-count.invariant.within c.loop-count.invariant.upto (λ lt. omega (arith, c.if-numbers-count.false))).0

pub returns-else-numbers-count-clause-beyond : goal.returns-else-numbers-count-clause-beyond
returns-else-numbers-count-clause-beyond c = (parted_upto c.args.numbers.now c.args.row c.args.off c.loop-count.count c.requires.rise
    c.loop-count.invariant.within c.loop-count.invariant.upto (λ lt. omega (arith, c.if-numbers-count.false))).1

pub returns-after-loop-count-clause-upto : goal.returns-after-loop-count-clause-upto
returns-after-loop-count-clause-upto c = (parted_upto c.args.numbers.now c.args.row c.args.off c.loop-count.count c.requires.rise
    c.loop-count.invariant.within c.loop-count.invariant.upto (λ lt. absurd (omega (arith, lt, c.loop-count-test.false)))).0

pub returns-after-loop-count-clause-beyond : goal.returns-after-loop-count-clause-beyond
returns-after-loop-count-clause-beyond c = (parted_upto c.args.numbers.now c.args.row c.args.off c.loop-count.count c.requires.rise
    c.loop-count.invariant.within c.loop-count.invariant.upto (λ lt. absurd (omega (arith, lt, c.loop-count-test.false)))).1
