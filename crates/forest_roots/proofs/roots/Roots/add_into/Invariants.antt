use Rattle.std.proofs.Common.{◌≡◌, ◌-◌}
use Rattle.forest_roots.proofs.Added.{IsJoining}
use Rattle.forest_roots.proofs.roots.Roots.add_into.Given as goal

abbrev pub invariant-slots : goal.invariant-slots
invariant-slots g l = record {
  same_count : l.self-inside.count ≡ l.initial.self-inside.count;
  joining : IsJoining g.D.Digester.digest_of l.initial.self-inside.count l.initial.self-inside.slots l.fn.digest l.initial.steps l.row
      l.self-inside.slots l.carried l.joins l.steps;
}

abbrev pub decreases-slots : goal.decreases-slots
decreases-slots g l = 40 - l.row
