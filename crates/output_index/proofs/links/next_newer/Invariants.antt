use Rattle.std.proofs.Common.{◌≡◌, ◌<◌}
use Rattle.output_index.specs.Links.{mark_at}
use Rattle.output_index.proofs.links.next_newer.Given as goal

abbrev pub invariant-loop-at : goal.invariant-loop-at
invariant-loop-at l = record {
  below : l.number < l.at;
  same : mark_at l.entries l.at ≡ mark_at l.entries l.number;
}

abbrev pub decreases-loop-at : goal.decreases-loop-at
decreases-loop-at l = l.at
