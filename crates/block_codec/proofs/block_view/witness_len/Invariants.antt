use Rattle.std.proofs.Common.{◌≡◌, ◌+◌, length, take}
use Rattle.std.specs.List.{flat_map}
use Rattle.tx_codec.specs.Transaction.{tx_text, legacy_text}
use Rattle.block_codec.proofs.block_view.witness_len.Given as goal

abbrev pub invariant-loop-tx : goal.invariant-loop-tx
invariant-loop-tx l = l.witness + length (flat_map legacy_text (take l.tx-index l.txs)) ≡ length (flat_map tx_text (take l.tx-index l.txs))
