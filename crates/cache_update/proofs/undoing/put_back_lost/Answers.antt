use Rattle.std.proofs.Common.{◌≡◌, ◌+◌, ◌-◌, ◌<◌, refl, take, map, length, arith}
use Rattle.forest_place.specs.Places.{is_before_place}
use Rattle.cache_model.specs.Undo.{is_same_place, held_key}
use Rattle.cache_update.specs.GappedList.{around}
use Rattle.cache_update.specs.Given.{digest_was, undo_digests}
use Rattle.cache_update.proofs.Undone.{undo_start, undo_on}
use Rattle.cache_update.proofs.Gapped.{has_gap, room_starts, room_stays, room_kept}
use Rattle.cache_update.proofs.undoing.put_back_lost.Goals as goal

pub loop-i-init : goal.loop-i-init
loop-i-init c =
    let rest = undo_start is_same_place is_before_place held_key digest_was c.args.lost.now (around c.args.gap.from c.args.gap.to c.args.list.now) _
    refl in
    record {
      gap = c.requires.gap;
      rest = rest;
      ascends = c.requires.ascends;
      within = omega arith;
      room = room_starts c.args.lost.now (around c.args.gap.from c.args.gap.to c.args.list.now) _ _ refl rest c.requires.room;
    }

pub put_in-now-requires-clause-room : goal.put_in-now-requires-clause-room
put_in-now-requires-clause-room c = has_gap c.args.lost.now c.loop-i.now.from c.loop-i.now.to c.loop-i.list c.loop-i.i c.loop-i.invariant.gap
    (omega (arith, c.loop-i-test.true)) c.loop-i.invariant.room

pub loop-i-preserved : goal.loop-i-preserved
loop-i-preserved c =
    let now = around c.loop-i.now.from c.loop-i.now.to c.loop-i.list in
    let fewer : c.loop-i.i - 1 + 1 ≡ c.loop-i.i = omega (arith, c.loop-i-test.true) in
    let inside : c.loop-i.i - 1 < length c.args.lost.now = omega (arith, c.loop-i-test.true, c.loop-i.invariant.within) in
    record {
      gap = c.put_in-now.ensures.gap;
      rest = undo_on is_same_place is_before_place held_key digest_was c.args.lost.now _ now _ c.loop-i.i (c.loop-i.i - 1) _ fewer inside
          c.put_in-now.ensures.items c.loop-i.invariant.rest;
      ascends = c.put_in-now.ensures.ascends;
      within = omega (arith, c.loop-i.invariant.within);
      room = room_kept _ _ (length c.loop-i.list) _ (omega (arith, c.put_in-now.auto.list))
          (room_stays c.args.lost.now now _ _ _ _ c.loop-i.i (c.loop-i.i - 1) fewer c.put_in-now.ensures.items
          (undo_on is_same_place is_before_place held_key digest_was c.args.lost.now
          (undo_digests (map digest_was (take c.loop-i.i c.args.lost.now)) now) now _ c.loop-i.i (c.loop-i.i - 1) _ fewer inside
          c.put_in-now.ensures.items refl) c.loop-i.invariant.room);
    }
