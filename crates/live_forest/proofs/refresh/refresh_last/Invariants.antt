use Rattle.std.proofs.Common.{◌≡◌, ◌+◌, ◌-◌, ◌/◌, ◌^◌, ◌<◌}
use Rattle.forest_place.specs.Forest.{InForest}
use Rattle.live_forest.specs.Stores.{HasRoomOf}
use Rattle.live_forest.specs.Parts.{leaves_of, ArePartsBut, digests_to}
use Rattle.live_forest.proofs.refresh.refresh_last.Given as goal

abbrev pub invariant-rows : goal.invariant-rows
invariant-rows g l = record {
  small : l.row < 40;
  within : InForest l.n l.row (l.number / 2 ^ l.row);
  right : ArePartsBut g.D.Digester.digest_of l.n (leaves_of l.initial.store) l.store l.number l.row;
  leaves : leaves_of l.store ≡ leaves_of l.initial.store;
  cost : l.steps ≡ l.initial.steps + digests_to (leaves_of l.initial.store) l.number l.row;
  room : HasRoomOf l.initial.store l.store;
}

abbrev pub decreases-rows : goal.decreases-rows
decreases-rows g l = 40 - l.row
