use Rattle.std.proofs.Common.{take}
use Rattle.tx_codec.specs.Transaction.{tx_text}
use Rattle.block_codec.specs.Ids.{AreTexts}
use Rattle.block_codec.proofs.ids.whole_texts.Given as goal

abbrev pub invariant-loop-tx : goal.invariant-loop-tx
invariant-loop-tx l = AreTexts tx_text l.texts.items (take l.tx-index l.txs)
