use Rattle.std.proofs.Common.{◌≡◌, ◌+◌, ◌<◌, ◌≤◌, ◌^◌}
use Rattle.cache_update.specs.Marks.{Fits}
use Rattle.bench_parts.proofs.cache.add_unwatched.Given as goal

abbrev pub invariant-loop-left : goal.invariant-loop-left
invariant-loop-left g l = record {
  fits : Fits l.mark l.cache.parts;
  adds : l.left ≤ l.mark.adds;
  count : l.roots.leaves ≡ l.mark.leaves;
  few : l.roots.leaves + l.left < 2 ^ 40;
}

abbrev pub decreases-loop-left : goal.decreases-loop-left
decreases-loop-left g l = l.left
