use Rattle.std.proofs.Common.{◌-◌, refl, arith}
use Rattle.forest_place.specs.Places.{is_before_place}
use Rattle.cache_model.specs.Undo.{is_same_place, held_key}
use Rattle.cache_update.specs.GappedList.{around}
use Rattle.cache_update.specs.Given.{digest_none}
use Rattle.cache_update.proofs.Undone.{undo_start, undo_on}
use Rattle.cache_update.proofs.undoing.take_out_gained.Goals as goal

pub loop-i-init : goal.loop-i-init
loop-i-init c = record {
  gap = c.requires.gap;
  rest = undo_start is_same_place is_before_place held_key digest_none c.args.gained.now
      (around c.args.gap.from c.args.gap.to c.args.list.now) _ refl;
  ascends = c.requires.ascends;
  within = omega arith;
}

pub loop-i-preserved : goal.loop-i-preserved
loop-i-preserved c = record {
  gap = c.take_out-now.ensures.gap;
  rest = undo_on is_same_place is_before_place held_key digest_none c.args.gained.now _ (around c.loop-i.now.from c.loop-i.now.to c.loop-i.list) _
      c.loop-i.i (c.loop-i.i - 1) _ (omega (arith, c.loop-i-test.true)) (omega (arith, c.loop-i-test.true, c.loop-i.invariant.within))
      c.take_out-now.ensures.items c.loop-i.invariant.rest;
  ascends = c.take_out-now.ensures.ascends;
  within = omega (arith, c.loop-i.invariant.within);
}
