use Rattle.std.proofs.Common.{◌∙◌}
use Rattle.chain_order.proofs.Numbering.{number_within}
use Rattle.chain_order.proofs.arrivals.Arrivals.number_of.Goals as goal

pub returns-clause-within : goal.returns-clause-within
returns-clause-within c = rw (← c.self.view_is) (number_within _ _ _ (c.copied.ensures ∙ c.get.ensures.value ∙ c.self.invariant.told _))
