use Rattle.std.proofs.Common.{take}
use Rattle.output_index.specs.Forgetting.{AreToForget}
use Rattle.output_index.proofs.outputs.entries_to_forget.Given as goal

abbrev pub invariant-loop-at : goal.invariant-loop-at
invariant-loop-at l = AreToForget l.outputs (take l.at l.numbers) l.known.items
