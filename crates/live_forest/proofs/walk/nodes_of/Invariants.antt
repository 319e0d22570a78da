use Rattle.std.proofs.Common.{◌≡◌, ◌≤◌, length}
use Rattle.live_forest.specs.Lookups.{AreNodes}
use Rattle.live_forest.specs.Parts.{entries_in}
use Rattle.live_forest.proofs.walk.nodes_of.Given as goal

abbrev pub invariant-loop-left : goal.invariant-loop-left
invariant-loop-left l = record {
  low : l.left ≤ l.at;
  high : l.at ≤ length l.places;
  each : length l.nodes.items ≡ length l.places;
  told : AreNodes (entries_in l.n l.store) l.places l.nodes.items l.left;
}

abbrev pub decreases-loop-left : goal.decreases-loop-left
decreases-loop-left l = l.left
