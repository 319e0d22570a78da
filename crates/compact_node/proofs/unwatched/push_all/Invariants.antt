use Rattle.std.proofs.Common.{◌≡◌, ◌+◌, ◌*◌, ◌-◌, ◌≤◌, length, map, take}
use Rattle.std.specs.Prelude.{count_ones}
use Rattle.leaf_record.specs.Leaf.{leaf_text}
use Rattle.compact_node.specs.After.{with_leaves}
use Rattle.compact_node.proofs.unwatched.push_all.Given as goal

abbrev pub invariant-loop-from : goal.invariant-loop-from
invariant-loop-from g l = record {
  within : l.from ≤ length l.spends.new;
  room : length l.digests ≡ length l.fn.digests;
  are : l.roots ≡ with_leaves g.D.Digester.digest_of l.fn.roots (map (λ leaf. g.D.Digester.digest_of (leaf_text leaf)) (take l.from l.spends.new));
  few : l.steps + count_ones l.roots.leaves ≤ l.fn.steps + 2 * l.from + count_ones l.fn.roots.leaves;
}

abbrev pub decreases-loop-from : goal.decreases-loop-from
decreases-loop-from g l = length l.spends.new - l.from
