use Rattle.std.proofs.Common.{◌<◌, ◌≤◌, ◌+◌, ◌-◌, ◌/◌, ◌^◌}
use Rattle.std.specs.Prelude.{nat_le}
use Rattle.live_forest.specs.Rows.{AreBelow, HasRoom, KeepsEntries}
use Rattle.live_forest.proofs.growth.fill_rows.Given as goal

-- each row has half as many new parts as the one below, or one more
abbrev pub invariant-rows : goal.invariant-rows
invariant-rows g l = record {
  small : l.row < 40;
  below : AreBelow g.D.Digester.digest_of l.n l.store (nat_le l.before) l.row;
  kept : KeepsEntries l.initial.store l.store;
  waiting : HasRoom l.waiting;
  cost : l.steps + l.n / 2 ^ l.row + l.before ≤ l.initial.steps + l.n + l.row + l.before / 2 ^ l.row;
}

abbrev pub decreases-rows : goal.decreases-rows
decreases-rows g l = 40 - l.row
