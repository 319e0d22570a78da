use Rattle.std.proofs.Common.{length}
use Rattle.proof_verify.proofs.Queued.{halves_within}
use Rattle.proof_verify.proofs.batch.evaluate_batch.Goals as goal

pub queue-count-requires-clause-within : goal.queue-count-requires-clause-within
queue-count-requires-clause-within g c =
    halves_within (length c.args.below.now) (length c.args.leaves.now) (length c.args.hashes.now) c.args.sources.now c.requires.within
