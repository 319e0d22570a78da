use Rattle.std.proofs.Common.{sym, ◌∙◌, arith}
use Rattle.cache_update.proofs.Walked.{split_back, split_first, none_more}
use Rattle.cache_update.proofs.deletion_goals.index_back.Goals as goal

pub loop-at-init : goal.loop-at-init
loop-at-init c = c.requires.none

pub returns-then-is_before : goal.returns-then-is_before
returns-then-is_before c = split_back c.args.held.now c.args.place c.loop-at.at c.loop-at.invariant _ c.requires.ascends
    (omega (arith, c.loop-at-test.true)) (sym c.is_before.ensures.is ∙ c.if-is_before.true)

pub loop-at-preserved : goal.loop-at-preserved
loop-at-preserved c = none_more c.args.held.now c.args.place c.loop-at.at c.loop-at.invariant _ (omega (arith, c.loop-at-test.true))
    (sym c.is_before.ensures.is ∙ c.if-is_before.false)

pub returns : goal.returns
returns c = split_first c.args.held.now c.args.place c.loop-at.at c.loop-at.invariant (omega (arith, c.loop-at-test.false))
