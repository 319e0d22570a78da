use Rattle.std.proofs.Common.{◌≡◌, ◌++◌, map}
use Rattle.block_rules.specs.Blocks.{outpoint_of}
use Rattle.block_rules.specs.Seen.{mark_of}
use Rattle.block_rules.proofs.double.put_marks.Given as goal

abbrev pub invariant-loop-input : goal.invariant-loop-input
invariant-loop-input l = l.marks.items ++ map (λ input. mark_of (outpoint_of input)) l.input-iterator ≡ l.fn.marks.items
    ++ map (λ input. mark_of (outpoint_of input)) l.fn.tx.inputs
