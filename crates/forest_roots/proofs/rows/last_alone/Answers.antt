use Rattle.forest_roots.proofs.RowLaws.{odd_is, odd_none}
use Rattle.forest_roots.proofs.rows.last_alone.Goals as goal

pub returns-then-nodes-eq1 : goal.returns-then-nodes-eq1
returns-then-nodes-eq1 c = odd_is _ _ c.if-nodes-eq1.true

pub returns-else-nodes-eq1 : goal.returns-else-nodes-eq1
returns-else-nodes-eq1 c = odd_none _ c.if-nodes-eq1.false
