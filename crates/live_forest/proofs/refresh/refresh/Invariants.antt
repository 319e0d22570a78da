use Rattle.std.proofs.Common.{◌≡◌, ◌+◌, ◌/◌, ◌^◌, ◌≤◌}
use Rattle.live_forest.specs.Stores.{HasRoomOf}
use Rattle.live_forest.specs.Parts.{leaves_of, ArePartsBut, part_digest, digests_to}
use Rattle.live_forest.proofs.refresh.refresh.Given as goal

abbrev pub invariant-loop-row : goal.invariant-loop-row
invariant-loop-row g l = record {
  upto : l.row ≤ l.rows;
  own : l.digest ≡ part_digest g.D.Digester.digest_of (leaves_of l.initial.store) l.row (l.number / 2 ^ l.row);
  right : ArePartsBut g.D.Digester.digest_of l.n (leaves_of l.initial.store) l.store l.number l.row;
  leaves : leaves_of l.store ≡ leaves_of l.initial.store;
  cost : l.steps ≡ l.initial.steps + digests_to (leaves_of l.initial.store) l.number l.row;
  room : HasRoomOf l.initial.store l.store;
}
