use Rattle.std.proofs.Common.{◌≡◌, take}
use Rattle.forest_model.specs.Deletion.{entries_without}
use Rattle.live_forest.specs.Stores.{HasRoomOf}
use Rattle.live_forest.specs.Parts.{leaves_of}
use Rattle.live_forest.specs.Rows.{is_one, AreUntouched}
use Rattle.live_forest.proofs.emptying.empty_each.Given as goal

abbrev pub invariant-loop-number : goal.invariant-loop-number
invariant-loop-number l = record {
  leaves : leaves_of l.store ≡ entries_without (take l.number-index l.numbers) (leaves_of l.initial.store);
  others : AreUntouched (is_one l.numbers) l.initial.store l.store;
  room : HasRoomOf l.initial.store l.store;
}
