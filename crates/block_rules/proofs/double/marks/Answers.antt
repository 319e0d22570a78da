use Rattle.block_rules.proofs.Marks.{marks_on}
use Rattle.block_rules.proofs.double.marks.Goals as goal

pub loop-t-preserved : goal.loop-t-preserved
loop-t-preserved c = marks_on c.loop-t.t c.args.block.now.txs c.tx.result.now c.loop-t.marks.items c.put_marks.new.marks.items _ c.tx.ensures
    c.in_ok-put_marks.ensures c.loop-t.invariant
