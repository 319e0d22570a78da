use Rattle.std.proofs.Common.{count_by, not}
use Rattle.chain_order.proofs.Walking.{IsWalking}
use Rattle.chain_order.proofs.arrivals.Arrivals.way_back.Given as goal

abbrev pub invariant-loop-numbers : goal.invariant-loop-numbers
invariant-loop-numbers l = IsWalking l.self l.tip l.marks l.numbers.items l.hash

abbrev pub decreases-loop-numbers : goal.decreases-loop-numbers
decreases-loop-numbers l = count_by not l.marks
