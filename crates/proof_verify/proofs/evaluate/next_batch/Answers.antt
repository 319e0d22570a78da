use Rattle.proof_verify.proofs.Batched.{batch_told}
use Rattle.proof_verify.proofs.evaluate.next_batch.Goals as goal

pub returns : goal.returns
returns c =
    batch_told c.args.sources.now c.args.made c.ready.result c.split_at.result.1.now c.first_of-next.result.now c.split_at-2.result.0.now
    c.split_at.ensures.back c.first_of-next.ensures c.ready.ensures.value c.split_at-2.ensures.front
