use Rattle.std.proofs.Common.{◌∙◌, sym, arith, reverse}
use Rattle.relay_core.proofs.Lines.{met_more, met_found, met_none}
use Rattle.relay_core.proofs.line.met.Goals as goal

pub returns-then-has-clause-is : goal.returns-then-has-clause-is
returns-then-has-clause-is c = met_found (reverse c.args.chain.now) c.args.serials.now c.loop-k.k (omega (arith, c.loop-k-test.true))
    c.loop-k.invariant (sym c.has.ensures ∙ c.if-has.true)

pub loop-k-preserved : goal.loop-k-preserved
loop-k-preserved c = met_more (reverse c.args.chain.now) c.args.serials.now c.loop-k.k (omega (arith, c.loop-k-test.true)) c.loop-k.invariant
    (sym c.has.ensures ∙ c.if-has.false)

pub returns-clause-is : goal.returns-clause-is
returns-clause-is c = met_none (reverse c.args.chain.now) c.args.serials.now c.loop-k.k (omega (arith, c.loop-k-test.false)) c.loop-k.invariant
