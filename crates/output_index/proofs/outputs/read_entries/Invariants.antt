use Rattle.std.proofs.Common.{take}
use Rattle.output_index.specs.Forgetting.{AreRead}
use Rattle.output_index.proofs.outputs.read_entries.Given as goal

abbrev pub invariant-loop-number : goal.invariant-loop-number
invariant-loop-number l = AreRead l.outputs (take l.number-index l.numbers) l.read.items
