use Rattle.std.proofs.Common.{◌≡◌, drop}
use Rattle.std.specs.List.{list_any}
use Rattle.block_rules.specs.Witness.{has_witness}
use Rattle.block_rules.proofs.witness.has_witness.Given as goal

abbrev pub invariant-loop-t : goal.invariant-loop-t
invariant-loop-t l = list_any has_witness (drop l.t l.fn.block.txs) ≡ list_any has_witness l.fn.block.txs
