use Rattle.std.proofs.Common.{◌+◌, arith}
use Rattle.forest_roots.proofs.Packing.{rows_few, rows_room, no_slot}
use Rattle.forest_roots.proofs.packed.rows_of.Goals as goal

pub returns-then-n-eq0-clause-above : goal.returns-then-n-eq0-clause-above
returns-then-n-eq0-clause-above c = λ row le. no_slot c.args.n 0 row (omega (arith, c.if-n-eq0.true)) le

pub returns-else-n-eq0-clause-few : goal.returns-else-n-eq0-clause-few
returns-else-n-eq0-clause-few c = rows_few c.args.n c.ilog2.result 40 c.ilog2.ensures.power_le c.requires

pub returns-else-n-eq0-clause-above : goal.returns-else-n-eq0-clause-above
returns-else-n-eq0-clause-above c = λ row le. no_slot c.args.n (c.ilog2.result + 1) row
    (rows_room c.args.n c.ilog2.result c.ilog2.ensures.next_power_gt) le
