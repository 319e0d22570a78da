use Rattle.std.proofs.Common.{◌≡◌, ◌++◌, length, take}
use Rattle.std.specs.List.{flat_map, AllByRecursion}
use Rattle.uo_base.specs.Compact.{compact}
use Rattle.tx_codec.specs.Transaction.{tx_text, Fits}
use Rattle.block_codec.proofs.writing.put_txs.Given as goal

abbrev pub invariant-loop-tx : goal.invariant-loop-tx
invariant-loop-tx l = record {
  text : l.out.items ≡ l.fn.out.items ++ (compact (length l.txs) ++ flat_map tx_text (take l.tx-index l.txs));
  fit : AllByRecursion Fits (take l.tx-index l.txs);
}
