use Rattle.std.proofs.Common.{arith}
use Rattle.tx_codec.specs.Transaction.{tx_text}
use Rattle.block_codec.proofs.IdLaws.{room_left, texts-more}
use Rattle.block_codec.proofs.ids.whole_texts.Goals as goal

pub push-requires : goal.push-requires
push-requires c = (omega arith, room_left tx_text _ _ _ _ c.loop-tx-test.true c.requires c.loop-tx.invariant)

pub loop-tx-preserved : goal.loop-tx-preserved
loop-tx-preserved c = rw c.push.ensures.items
    (texts-more tx_text _ _ _ _ _ c.loop-tx-test.true c.tx-item.is c.bytes.ensures.text c.loop-tx.invariant)
