use Rattle.std.proofs.Common.{◌≡◌, ◌≤◌, length, drop}
use Rattle.compact_node.specs.Pending.{pending}
use Rattle.compact_node.proofs.grow.watched_in.Given as goal

abbrev pub invariant-loop-i : goal.invariant-loop-i
invariant-loop-i l = record {
  within : l.i ≤ length l.spends.new;
  leaves : l.leaves.items ≡ pending l.watch l.i (drop l.i l.spends.new);
}

abbrev pub decreases-loop-i : goal.decreases-loop-i
decreases-loop-i l = l.i
