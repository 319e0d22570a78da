use Rattle.std.proofs.Common.{sym}
use Rattle.tx_codec.specs.Views.{output_of}
use Rattle.block_rules.proofs.output.OutputSlot.get.Goals as goal

pub invariant_of-result : goal.invariant_of-result
invariant_of-result c = c.self.invariant.short (output_of c.in-Some.output) (sym c.in-Some.ensures)
