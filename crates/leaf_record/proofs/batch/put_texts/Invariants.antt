use Rattle.std.proofs.Common.{◌-◌, ◌≤◌}
use Rattle.leaf_record.proofs.BatchLaws.{IsPutting}
use Rattle.leaf_record.proofs.batch.put_texts.Given as goal

abbrev pub invariant-texts : goal.invariant-texts
invariant-texts g l = record { put : IsPutting (g.S.Leaves.leaves l.leaves) l.from l.room l.lengths l.count l.end; most : l.count ≤ l.most }

abbrev pub decreases-texts : goal.decreases-texts
decreases-texts g l = l.most - l.count
