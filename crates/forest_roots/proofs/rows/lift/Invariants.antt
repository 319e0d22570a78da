use Rattle.std.proofs.Common.{◌≡◌, ◌+◌, ◌-◌, ◌/◌, ◌≤◌, length}
use Rattle.forest_roots.specs.Rows.{IsLifted}
use Rattle.forest_roots.proofs.rows.lift.Given as goal

abbrev pub invariant-pairs : goal.invariant-pairs
invariant-pairs g l = record {
  lifted : IsLifted g.D.Digester.digest_of l.initial.nodes l.nodes l.pair;
  within : l.pair ≤ l.count;
  all : l.count ≡ length l.initial.nodes / 2;
  counted : l.steps ≡ l.initial.steps + l.pair;
}

abbrev pub decreases-pairs : goal.decreases-pairs
decreases-pairs g l = l.count - l.pair
