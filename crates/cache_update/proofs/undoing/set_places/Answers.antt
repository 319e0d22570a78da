use Rattle.std.proofs.Common.{◌-◌, refl, arith}
use Rattle.cache_model.specs.Lists.{leaf_key}
use Rattle.cache_model.specs.Undo.{is_same_number, is_before_number}
use Rattle.cache_update.specs.Given.{entry_stood}
use Rattle.cache_update.proofs.Undone.{undo_start, undo_on}
use Rattle.cache_update.proofs.undoing.set_places.Goals as goal

pub loop-i-init : goal.loop-i-init
loop-i-init c = record {
  rest = undo_start is_same_number is_before_number leaf_key entry_stood c.args.stood.now c.args.kept.now.items _ refl;
  ascends = c.requires;
  within = omega arith;
  room = omega arith;
}

pub loop-i-preserved : goal.loop-i-preserved
loop-i-preserved c = record {
  rest = undo_on is_same_number is_before_number leaf_key entry_stood c.args.stood.now _ c.loop-i.kept.items c.set_place.new.kept.items c.loop-i.i
      (c.loop-i.i - 1) _ (omega (arith, c.loop-i-test.true)) (omega (arith, c.loop-i-test.true, c.loop-i.invariant.within)) c.set_place.ensures.items
      c.loop-i.invariant.rest;
  ascends = c.set_place.ensures.ascends;
  within = omega (arith, c.loop-i.invariant.within);
  room = omega (arith, c.loop-i.invariant.room, c.set_place.ensures.capacity);
}
