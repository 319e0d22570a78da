use Rattle.std.proofs.Common.{rules}
use Rattle.tx_codec.proofs.ViewLaws.{legacy-shorter}
use Rattle.block_codec.proofs.BlockViewLaws.{witness_more}
use Rattle.block_codec.proofs.block_view.witness_len.Goals as goal

pub overflow_sub-witness : goal.overflow_sub-witness
overflow_sub-witness c = rw (c.bytes.ensures.text, c.stripped_len.ensures) (legacy-shorter c.tx-item.result)

pub overflow_add-witness : goal.overflow_add-witness
overflow_add-witness c =
    let below = (witness_more _ _ _ _ c.loop-tx-test.true c.tx-item.is c.requires c.loop-tx.invariant).below in
    let same = rw (← c.bytes.ensures.text, ← c.stripped_len.ensures) at below in search rules

pub loop-tx-preserved : goal.loop-tx-preserved
loop-tx-preserved c = rw (c.bytes.ensures.text, c.stripped_len.ensures)
    ((witness_more _ _ _ _ c.loop-tx-test.true c.tx-item.is c.requires c.loop-tx.invariant).adds)
