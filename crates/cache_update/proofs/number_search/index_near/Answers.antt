use Rattle.std.proofs.Common.{◌+◌, ◌-◌, ◌/◌, arith}
use Rattle.cache_update.proofs.Bracketed.{bracket_up, bracket_down, bracket_end}
use Rattle.cache_update.proofs.number_search.index_near.Goals as goal

pub loop-low-preserved-then-value-number : goal.loop-low-preserved-then-value-number
loop-low-preserved-then-value-number c =
    bracket_up c.args.numbers.now c.args.number c.loop-low.low c.loop-low.high (c.loop-low.low + (c.loop-low.high - c.loop-low.low) / 2) c.requires
    c.loop-low.invariant (omega arith) (omega (arith, c.loop-low-test.true)) (omega (arith, c.if-value-number.true))

pub loop-low-preserved : goal.loop-low-preserved
loop-low-preserved c =
    bracket_down c.args.numbers.now c.args.number c.loop-low.low c.loop-low.high (c.loop-low.low + (c.loop-low.high - c.loop-low.low) / 2) c.requires
    c.loop-low.invariant (omega arith) (omega (arith, c.loop-low-test.true)) (omega (arith, c.if-value-number.false))

pub returns : goal.returns
returns c = bracket_end c.args.numbers.now c.args.number c.loop-low.low c.loop-low.high c.loop-low.invariant (omega (arith, c.loop-low-test.false))
