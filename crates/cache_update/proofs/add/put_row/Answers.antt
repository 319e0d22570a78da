use Rattle.cache_update.proofs.Rows.{low_off}
use Rattle.cache_update.proofs.add.put_row.Goals as goal

pub child-requires-clause-off : goal.child-requires-clause-off
child-requires-clause-off c = low_off c.carried_at-in-Some.result.row c.carried_at-in-Some.result.off c.carried_at-in-Some.ensures.few
