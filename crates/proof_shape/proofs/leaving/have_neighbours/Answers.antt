use Rattle.std.proofs.Common.{◌≡◌, ◌+◌, ◌-◌, suc, get_or, ap, ◌∙◌, arith}
use Rattle.proof_shape.proofs.Gone.{apart_from, neighbours_at}
use Rattle.proof_shape.proofs.leaving.have_neighbours.Goals as goal

pub returns-then-sorted-i-eq1 : goal.returns-then-sorted-i-eq1
returns-then-sorted-i-eq1 c =
    let k = c.loop-i.i - 1 in
    let at : k + 1 ≡ c.loop-i.i = omega (arith, c.loop-i.invariant.0) in
    let step : get_or c.args.sorted.now c.loop-i.i 0 ≡ suc (get_or c.args.sorted.now k 0) = omega (arith, c.if-sorted-i-eq1.true) in
    neighbours_at c.args.sorted.now k (omega (arith, c.loop-i-test.true, c.loop-i.invariant.0)) (ap (λ j. get_or c.args.sorted.now j 0) at ∙ step)

pub returns : goal.returns
returns c = apart_from c.args.sorted.now c.requires (λ k lt. c.loop-i.invariant.1 k (omega (arith, lt, c.loop-i-test.false)))
