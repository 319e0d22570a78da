use Rattle.std.proofs.Common.{length, take, ◌-◌, ◌≡◌, ◌+◌, ◌≤◌}
use Rattle.std.specs.List.{AllByRecursion}
use Rattle.uo_digest.specs.Batches.{AreGiven}
use Rattle.leaf_record.specs.Leaf.{LeafFits, leaf_text}
use Rattle.leaf_record.proofs.batch.digest_all.Given as goal

abbrev pub invariant-batches : goal.invariant-batches
invariant-batches g l = record {
  given : AreGiven (λ leaf. g.D.Digester.digest_of (leaf_text leaf)) (g.S.Leaves.leaves l.leaves) l.out l.from;
  fit : AllByRecursion LeafFits (take l.from (g.S.Leaves.leaves l.leaves));
  steps : l.steps ≡ l.initial.steps + l.from;
  within : l.from ≤ length l.out;
}

abbrev pub decreases-batches : goal.decreases-batches
decreases-batches g l = length l.initial.out - l.from
