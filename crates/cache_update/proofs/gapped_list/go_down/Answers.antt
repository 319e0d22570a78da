use Rattle.std.proofs.Common.{refl, ◌∙◌, sym, arith}
use Rattle.cache_update.specs.GappedList.{around}
use Rattle.cache_update.proofs.Gapped.{ends_at, ends_before}
use Rattle.cache_update.proofs.gapped_list.go_down.Goals as goal

pub loop-now-init : goal.loop-now-init
loop-now-init c = record { gap = c.requires.gap; same = refl; size = omega arith }

pub loop-now-preserved : goal.loop-now-preserved
loop-now-preserved c = record {
  gap = c.one_down-now.ensures.gap;
  same = c.one_down-now.ensures.same ∙ c.loop-now.invariant.same;
  size = omega (arith, c.one_down-now.ensures.from, c.one_down-now.ensures.to, c.loop-now.invariant.size);
}

pub returns-then-is_before-clause-before : goal.returns-then-is_before-clause-before
returns-then-is_before-clause-before c = ends_before (around c.args.gap.from c.args.gap.to c.args.list.now) c.loop-now.now.from c.loop-now.now.to
    c.loop-now.list c.args.place c.loop-now.invariant.gap c.loop-now.invariant.same _ (omega (arith, c.loop-now-test.true))
    (sym c.is_before.ensures.is ∙ c.if-is_before.true)

pub returns-clause-before : goal.returns-clause-before
returns-clause-before c = ends_at (around c.args.gap.from c.args.gap.to c.args.list.now) c.loop-now.now.from c.args.place
    (omega (arith, c.loop-now-test.false))
