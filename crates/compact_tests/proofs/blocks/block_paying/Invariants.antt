use Rattle.std.specs.Prelude.{◌<◌, length}
use Rattle.std.specs.List.{AllByRecursion}
use Rattle.tx_codec.specs.Transaction.{IsWritable}
use Rattle.compact_tests.proofs.blocks.block_paying.Given as goal

abbrev pub invariant-loop-sketch : goal.invariant-loop-sketch
invariant-loop-sketch l = (0 < length l.txs.items) × AllByRecursion IsWritable l.txs.items
