use Rattle.std.proofs.Common.{arith, leb-true}
use Rattle.block_rules.proofs.Marks.{one_differs}
use Rattle.block_rules.proofs.double.has_one_input.Goals as goal

pub returns-then-tx_count-eq1 : goal.returns-then-tx_count-eq1
returns-then-tx_count-eq1 c = λ t.
    one_differs c.args.block.now.txs _ (omega arith) c.tx.ensures (omega (arith, leb-true _ _ t, c.input_count.ensures))
