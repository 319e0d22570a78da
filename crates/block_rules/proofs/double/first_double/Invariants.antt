use Rattle.std.proofs.Common.{[], drop}
use Rattle.block_rules.specs.Blocks.{placed_of}
use Rattle.block_rules.specs.Seen.{Reaches}
use Rattle.block_rules.proofs.double.first_double.Given as goal

abbrev pub invariant-loop-t : goal.invariant-loop-t
invariant-loop-t l = Reaches [] (placed_of 0 l.fn.block.txs) (placed_of l.t (drop l.t l.fn.block.txs)) l.seen
