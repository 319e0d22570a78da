use Rattle.std.proofs.Common.{sym}
use Rattle.block_rules.proofs.Doubles.{double_here, double_on}
use Rattle.block_rules.proofs.double.first_double.Goals as goal

pub returns-in-Some : goal.returns-in-Some
returns-in-Some c =
    sym (double_here c.loop-t.t _ _ _ _ c.first_seen.new.seen c.loop-t.invariant c.tx.ensures c.in-Some.input
    (rw c.in-Some.is at c.in_ok-input.ensures))

pub loop-t-preserved : goal.loop-t-preserved
loop-t-preserved c = double_on c.loop-t.t _ _ _ _ c.first_seen.new.seen c.loop-t.invariant c.tx.ensures (rw c.in_default.is at c.in_ok-input.ensures)
