use Rattle.std.proofs.Common.{◌≡◌, ◌-◌}
use Rattle.forest_roots.proofs.Rising.{IsRising}
use Rattle.forest_roots.proofs.roots.Roots.push_all.Given as goal

abbrev pub invariant-loop-count : goal.invariant-loop-count
invariant-loop-count g l = record {
  same_count : l.self-inside.count ≡ l.initial.self-inside.count;
  rising : IsRising g.D.Digester.digest_of l.initial.self-inside.count l.initial.self-inside.slots l.initial.digests l.initial.steps l.row
      l.self-inside.slots l.digests l.count l.steps;
}

abbrev pub decreases-loop-count : goal.decreases-loop-count
decreases-loop-count g l = 40 - l.row
