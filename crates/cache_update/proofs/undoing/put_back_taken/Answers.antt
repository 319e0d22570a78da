use Rattle.std.proofs.Common.{refl, ap, length, arith}
use Rattle.cache_model.specs.Lists.{leaf_key}
use Rattle.cache_model.specs.Undo.{is_same_number, is_before_number}
use Rattle.cache_update.specs.Given.{entry_was}
use Rattle.cache_update.proofs.Undone.{undo_long}
use Rattle.cache_update.proofs.Giving.{taken_on}
use Rattle.cache_update.proofs.undoing.put_back_taken.Goals as goal

pub put_entry-requires-clause-room : goal.put_entry-requires-clause-room
put_entry-requires-clause-room c =
    let long = undo_long is_same_number is_before_number leaf_key entry_was (λ x v. refl) c.loop-entry.left.items c.loop-entry.kept.items in
    let short = ap length c.loop-entry.invariant.rest in
    omega (arith, long, short, c.requires.room, c.loop-entry.invariant.room)

pub loop-entry-preserved : goal.loop-entry-preserved
loop-entry-preserved c = record {
  rest = taken_on _ c.loop-entry.left.items c.pop.new.self.items c.loop-entry.kept.items c.put_entry.new.kept.items c.in-Some.entry c.pop.result
      c.pop.ensures.items c.in-Some.is c.put_entry.ensures.items c.loop-entry.invariant.rest;
  ascends = c.put_entry.ensures.ascends;
  room = omega (arith, c.loop-entry.invariant.room, c.put_entry.ensures.capacity);
}
