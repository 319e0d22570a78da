use Rattle.std.proofs.Common.{◌≡◌, ◌++◌, drop}
use Rattle.block_rules.specs.Blocks.{placed_of}
use Rattle.block_rules.specs.Seen.{marks_of}
use Rattle.block_rules.proofs.double.marks.Given as goal

abbrev pub invariant-loop-t : goal.invariant-loop-t
invariant-loop-t l = l.marks.items ++ marks_of (placed_of l.t (drop l.t l.fn.block.txs)) ≡ marks_of (placed_of 0 l.fn.block.txs)
