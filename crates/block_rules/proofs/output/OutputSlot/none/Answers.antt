use Rattle.std.proofs.Common.{ap}
use Rattle.std.specs.Prelude.{option_map}
use Rattle.block_rules.specs.KeptOutputs.{kept_at}
use Rattle.block_rules.proofs.Slots.{nothing_first, empty_slot}
use Rattle.block_rules.proofs.output.OutputSlot.none.Goals as goal

pub invariant_of-result : goal.invariant_of-result
invariant_of-result c = empty_slot

pub returns : goal.returns
returns c = ap (option_map (kept_at 0 0)) nothing_first
