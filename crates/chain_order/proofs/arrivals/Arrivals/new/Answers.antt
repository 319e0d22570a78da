use Rattle.chain_order.proofs.Numbering.{none_numbered}
use Rattle.chain_order.proofs.arrivals.Arrivals.new.Goals as goal

pub invariant_of-result : goal.invariant_of-result
invariant_of-result c = none_numbered _ _ c.new.ensures.items c.new-2.ensures.empty
