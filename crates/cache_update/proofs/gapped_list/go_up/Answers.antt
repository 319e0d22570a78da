use Rattle.std.proofs.Common.{refl, ◌∙◌, sym, subst, arith}
use Rattle.cache_update.specs.GappedList.{EndsBefore, around}
use Rattle.cache_update.proofs.Gapped.{ends_more, split_inside, split_at_end}
use Rattle.cache_update.proofs.gapped_list.go_up.Goals as goal

pub loop-now-init : goal.loop-now-init
loop-now-init c = record { gap = c.requires.gap; same = refl; size = omega arith; before = c.requires.before }

pub loop-now-preserved : goal.loop-now-preserved
loop-now-preserved c = record {
  gap = c.one_up-now.ensures.gap;
  same = c.one_up-now.ensures.same ∙ c.loop-now.invariant.same;
  size = omega (arith, c.one_up-now.ensures.from, c.one_up-now.ensures.to, c.loop-now.invariant.size);
  before = subst (λ i. EndsBefore (around c.args.gap.from c.args.gap.to c.args.list.now) i c.args.place) (sym c.one_up-now.ensures.from)
      (ends_more (around c.args.gap.from c.args.gap.to c.args.list.now) c.loop-now.now.from c.loop-now.now.to c.loop-now.list c.args.place
      c.loop-now.invariant.gap c.loop-now.invariant.same _ (omega (arith, c.loop-now-test.true))
      (sym c.is_before.ensures.is ∙ c.if-not-is_before.false));
}

pub returns-then-not-is_before-clause-split : goal.returns-then-not-is_before-clause-split
returns-then-not-is_before-clause-split c = split_inside (around c.args.gap.from c.args.gap.to c.args.list.now) c.loop-now.now.from c.loop-now.now.to
    c.loop-now.list c.args.place c.loop-now.invariant.gap c.loop-now.invariant.same _ c.requires.ascends c.loop-now.invariant.before
    (omega (arith, c.loop-now-test.true)) (sym c.is_before.ensures.is ∙ c.if-not-is_before.true)

pub returns-clause-split : goal.returns-clause-split
returns-clause-split c = split_at_end (around c.args.gap.from c.args.gap.to c.args.list.now) c.loop-now.now.from c.loop-now.now.to c.loop-now.list
    c.args.place c.loop-now.invariant.gap c.loop-now.invariant.same c.requires.ascends c.loop-now.invariant.before
    (omega (arith, c.loop-now-test.false))
