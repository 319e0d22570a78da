use Rattle.std.proofs.Common.{◌<◌, ◌≤◌, ◌+◌, ◌-◌, ◌*◌, length}
use Rattle.forest_place.specs.Position.{rows}
use Rattle.live_forest.specs.Rows.{is_one, AreBelow, HasRoom, KeepsEntries}
use Rattle.live_forest.proofs.emptying.renew_rows.Given as goal

abbrev pub invariant-rows : goal.invariant-rows
invariant-rows g l = record {
  small : l.row < 40;
  below : AreBelow g.D.Digester.digest_of l.n l.store (is_one l.numbers) l.row;
  kept : KeepsEntries l.initial.store l.store;
  waiting : HasRoom l.waiting;
  rows : l.row ≤ rows l.n;
  cost : l.steps ≤ l.initial.steps + length l.numbers * l.row;
}

abbrev pub decreases-rows : goal.decreases-rows
decreases-rows g l = 40 - l.row
