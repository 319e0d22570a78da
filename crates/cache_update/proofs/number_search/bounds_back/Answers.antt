use Rattle.std.proofs.Common.{◌-◌, arith}
use Rattle.cache_update.proofs.Bracketed.{bracket_up, bracket_down}
use Rattle.cache_update.proofs.number_search.bounds_back.Goals as goal

pub loop-step-init : goal.loop-step-init
loop-step-init c = record { known = c.requires.known; short = (let w = c.requires.known.within in omega (arith, w)); some = omega arith }

pub returns-then-value-number : goal.returns-then-value-number
returns-then-value-number c =
    bracket_up c.args.numbers.now c.args.number 0 c.loop-step.high (c.loop-step.high - c.loop-step.step - 1) c.requires.sorted
    c.loop-step.invariant.known (omega arith) (omega (arith, c.loop-step-test.true)) (omega (arith, c.if-value-number.true))

pub loop-step-preserved : goal.loop-step-preserved
loop-step-preserved c = record {
  known = bracket_down c.args.numbers.now c.args.number 0 c.loop-step.high (c.loop-step.high - c.loop-step.step - 1) c.requires.sorted
      c.loop-step.invariant.known (omega arith) (omega (arith, c.loop-step-test.true)) (omega (arith, c.if-value-number.false));
  short = omega (arith, c.loop-step.invariant.short, c.loop-step-test.true);
  some = omega (arith, c.loop-step.invariant.some);
}

pub returns : goal.returns
returns c = c.loop-step.invariant.known
