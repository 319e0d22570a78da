use Rattle.std.proofs.Common.{◌≡◌}
use Rattle.std.specs.List.{list_any}
use Rattle.block_rules.specs.Rules.{is_null}
use Rattle.block_rules.proofs.steps.has_null.Given as goal

abbrev pub invariant-loop-input : goal.invariant-loop-input
invariant-loop-input l = list_any is_null l.input-iterator ≡ list_any is_null l.fn.tx.inputs
