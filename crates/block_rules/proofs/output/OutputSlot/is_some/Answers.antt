use Rattle.block_rules.proofs.Slots.{there}
use Rattle.block_rules.proofs.output.OutputSlot.is_some.Goals as goal

pub returns : goal.returns
returns c = rw (← c.self.view_is) (there c.self.inside.tx c.self.inside.index c.self.inside.text.now c.self.invariant c.is_empty.result
    c.is_empty.ensures)
