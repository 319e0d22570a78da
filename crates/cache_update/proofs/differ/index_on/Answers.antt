use Rattle.std.proofs.Common.{sym, ◌∙◌, arith}
use Rattle.cache_update.proofs.Walked.{split_at, split_end, before_more}
use Rattle.cache_update.proofs.differ.index_on.Goals as goal

pub loop-at-init : goal.loop-at-init
loop-at-init c = c.requires.before

pub returns-then-not-is_before : goal.returns-then-not-is_before
returns-then-not-is_before c = split_at c.args.held.now c.args.place c.loop-at.at c.loop-at.invariant _ c.requires.ascends
    (omega (arith, c.loop-at-test.true)) (sym c.is_before.ensures.is ∙ c.if-not-is_before.true)

pub loop-at-preserved : goal.loop-at-preserved
loop-at-preserved c = before_more c.args.held.now c.args.place c.loop-at.at c.loop-at.invariant _ (omega (arith, c.loop-at-test.true))
    (sym c.is_before.ensures.is ∙ c.if-not-is_before.false)

pub returns : goal.returns
returns c = split_end c.args.held.now c.args.place c.loop-at.at c.loop-at.invariant (omega (arith, c.loop-at-test.false))
