use Rattle.std.proofs.Common.{◌-◌, refl, ◌∙◌, arith}
use Rattle.compact_node.proofs.Levels.{marking_begins, marking_goes_on, marking_ends}
use Rattle.compact_node.proofs.read.older_of.Goals as goal

pub loop-i-init : goal.loop-i-init
loop-i-init g c = record {
  marking = marking_begins c.args.levels.now c.args.blocks _ c.args.cache.now.parts c.in_ok-past.past (omega (arith, c.requires.some))
      c.in_ok-past.ensures;
  within = omega (arith, c.requires.some);
  lists = (refl, refl);
  watch = refl;
}

pub loop-i-preserved : goal.loop-i-preserved
loop-i-preserved g c = record {
  marking =
      marking_goes_on c.args.levels.now c.args.blocks c.loop-i.i c.loop-i.cache.parts c.loop-i.past c.loop-i.invariant.marking
      (c.loop-i.i - 1) c.index-levels-i.result c.index-levels-i-in-loop-i.result c.past_of.new.cache.parts c.in_ok-older.older c.push.new.self
      c.loop-i.invariant.within c.requires.few
      (record {
        before = omega (arith, c.loop-i-test.true);
        newer_is = c.index-levels-i.is;
        level_is = c.index-levels-i-in-loop-i.is;
        past_is = c.in_ok-older.ensures.past;
        kept_room = c.past_of.ensures.kept_room;
        held_room = c.past_of.ensures.held_room;
        taken = c.push.ensures.kept;
      });
  within = omega (arith, c.loop-i.invariant.within);
  lists = (c.past_of.ensures.lists.0 ∙ c.loop-i.invariant.lists.0, c.past_of.ensures.lists.1 ∙ c.loop-i.invariant.lists.1);
  watch = c.past_of.ensures.watch ∙ c.loop-i.invariant.watch;
}

pub returns-clause-marked : goal.returns-clause-marked
returns-clause-marked g c = marking_ends c.args.levels.now c.args.blocks c.loop-i.i c.loop-i.cache.parts c.loop-i.past c.loop-i.invariant.marking
    (omega (arith, c.loop-i-test.false))
