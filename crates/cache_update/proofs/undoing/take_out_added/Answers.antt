use Rattle.std.proofs.Common.{◌-◌, refl, arith}
use Rattle.cache_model.specs.Lists.{leaf_key}
use Rattle.cache_model.specs.Undo.{is_same_number, is_before_number}
use Rattle.cache_update.specs.Given.{entry_none}
use Rattle.cache_update.proofs.Undone.{undo_start, undo_on}
use Rattle.cache_update.proofs.undoing.take_out_added.Goals as goal

pub loop-i-init : goal.loop-i-init
loop-i-init c = record {
  rest = undo_start is_same_number is_before_number leaf_key entry_none c.args.added.now c.args.kept.now.items _ refl;
  ascends = c.requires;
  within = omega arith;
  room = omega arith;
}

pub loop-i-preserved : goal.loop-i-preserved
loop-i-preserved c = record {
  rest = undo_on is_same_number is_before_number leaf_key entry_none c.args.added.now _ c.loop-i.kept.items c.take_out_entry.new.kept.items c.loop-i.i
      (c.loop-i.i - 1) _ (omega (arith, c.loop-i-test.true)) (omega (arith, c.loop-i-test.true, c.loop-i.invariant.within))
      c.take_out_entry.ensures.items c.loop-i.invariant.rest;
  ascends = c.take_out_entry.ensures.ascends;
  within = omega (arith, c.loop-i.invariant.within);
  room = omega (arith, c.loop-i.invariant.room, c.take_out_entry.ensures.capacity);
}
