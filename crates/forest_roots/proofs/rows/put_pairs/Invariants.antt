use Rattle.forest_roots.proofs.RowLaws.{ArePut}
use Rattle.forest_roots.proofs.rows.put_pairs.Given as goal

abbrev pub invariant-each : goal.invariant-each
invariant-each l = ArePut l.nodes l.pairs l.i
