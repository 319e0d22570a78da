use Rattle.std.proofs.Common.{refl, ◌∙◌, arith}
use Rattle.cache_update.proofs.Gapped.{gap_shut}
use Rattle.cache_update.proofs.gapped_list.shut.Goals as goal

pub loop-now-init : goal.loop-now-init
loop-now-init c = record { gap = c.requires; same = refl }

pub loop-now-preserved : goal.loop-now-preserved
loop-now-preserved c = record { gap = c.one_up-now.ensures.gap; same = c.one_up-now.ensures.same ∙ c.loop-now.invariant.same }

pub returns-clause-within : goal.returns-clause-within
returns-clause-within c = let o = c.loop-now.invariant.gap.order in let w = c.loop-now.invariant.gap.within in omega (arith, o, w)

pub returns-clause-same : goal.returns-clause-same
returns-clause-same c = gap_shut c.loop-now.now.from c.loop-now.now.to c.loop-now.list c.loop-now.invariant.gap (omega (arith, c.loop-now-test.false))
    ∙ c.loop-now.invariant.same
