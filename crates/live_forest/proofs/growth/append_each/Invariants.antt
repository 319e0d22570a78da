use Rattle.std.proofs.Common.{◌≡◌, ◌+◌, ◌++◌, Some, take, map}
use Rattle.std.specs.Prelude.{nat_le}
use Rattle.live_forest.specs.Stores.{HasRoomOf}
use Rattle.live_forest.specs.Parts.{leaves_of}
use Rattle.live_forest.specs.Rows.{AreUntouched}
use Rattle.live_forest.proofs.growth.append_each.Given as goal

abbrev pub invariant-loop-i : goal.invariant-loop-i
invariant-loop-i l = record {
  leaves : take (l.n + l.i) (leaves_of l.store) ≡ take l.n (leaves_of l.initial.store) ++ map Some (take l.i l.added);
  others : AreUntouched (nat_le l.n) l.initial.store l.store;
  room : HasRoomOf l.initial.store l.store;
}
