use Rattle.std.proofs.Common.{◌≡◌, drop}
use Rattle.block_rules.specs.Steps.{first_from}
use Rattle.block_rules.specs.Rules.{value_fault}
use Rattle.block_rules.proofs.Numbered.{value_at}
use Rattle.block_rules.proofs.steps.value_step.Given as goal

abbrev pub invariant-loop-t : goal.invariant-loop-t
invariant-loop-t l = first_from l.t value_at (drop l.t l.fn.block.txs) ≡ value_fault l.fn.block.txs
