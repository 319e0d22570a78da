use Rattle.std.proofs.Common.{◌≤◌, ◌-◌, ◌/◌, length}
use Rattle.std.specs.Prelude.{max}
use Rattle.live_forest.specs.Stores.{IsLonger}
use Rattle.live_forest.proofs.store.Store.list_upto.Given as goal

abbrev pub invariant-entries : goal.invariant-entries
invariant-entries l = record {
  longer : IsLonger l.initial.self l.self;
  high : l.entries / 128 ≤ length l.self.high;
  most : l.self.len ≤ max l.initial.self.len l.entries;
}

abbrev pub decreases-entries : goal.decreases-entries
decreases-entries l = l.entries - l.self.len
