use Rattle.std.proofs.Common.{sym, ◌∙◌}
use Rattle.block_rules.specs.Witness.{has_witness}
use Rattle.block_rules.proofs.Numbered.{any-here, any-on}
use Rattle.block_rules.proofs.witness.has_witness.Goals as goal

pub returns-then-is_segwit : goal.returns-then-is_segwit
returns-then-is_segwit c = sym (any-here has_witness c.args.block.now.txs c.loop-t.t c.tx.result.now _ c.loop-t.invariant c.tx.ensures
    (sym c.is_segwit.ensures ∙ c.if-is_segwit.true))

pub loop-t-preserved : goal.loop-t-preserved
loop-t-preserved c = any-on has_witness c.args.block.now.txs c.loop-t.t c.tx.result.now _ c.loop-t.invariant c.tx.ensures
    (sym c.is_segwit.ensures ∙ c.if-is_segwit.false)
