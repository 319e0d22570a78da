use Rattle.std.proofs.Common.{◌≡◌, length}
use Rattle.block_samples.proofs.txs.items_of.Given as goal

abbrev pub invariant-loop-item : goal.invariant-loop-item
invariant-loop-item l = length l.owned.items ≡ l.item-index
