use Rattle.std.proofs.Common.{arith}
use Rattle.leaf_record.proofs.BatchLaws.{fit_on}
use Rattle.leaf_record.proofs.batch.digest_all.Goals as goal

pub batches-preserved : goal.batches-preserved
batches-preserved g c = record {
  given = c.digest_batch-from.ensures.given;
  fit = fit_on (g.S.Leaves.leaves c.args.leaves.now) c.batches.from c.digest_batch-from.result c.batches.invariant.fit
      c.digest_batch-from.ensures.fits;
  steps = omega arith;
  within = omega arith;
}
