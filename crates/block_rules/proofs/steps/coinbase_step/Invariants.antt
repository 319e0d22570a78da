use Rattle.std.proofs.Common.{◌≡◌, drop}
use Rattle.block_rules.specs.Steps.{first_from}
use Rattle.block_rules.specs.Rules.{coinbase_fault}
use Rattle.block_rules.proofs.Numbered.{null_fault}
use Rattle.block_rules.proofs.steps.coinbase_step.Given as goal

abbrev pub invariant-loop-t : goal.invariant-loop-t
invariant-loop-t l = first_from l.t null_fault (drop l.t l.fn.block.txs) ≡ coinbase_fault l.fn.block.txs
