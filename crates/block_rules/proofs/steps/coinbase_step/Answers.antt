use Rattle.std.proofs.Common.{sym, ap, ◌∙◌}
use Rattle.std.specs.Prelude.{option_map, not}
use Rattle.block_rules.specs.declared.refusal.Refusal.TheVariants as Why
use Rattle.block_rules.proofs.Numbered.{null_fault, stops-here, goes-on, unless-true, unless-false}
use Rattle.block_rules.proofs.steps.coinbase_step.Goals as goal

pub returns-then-has_null : goal.returns-then-has_null
returns-then-has_null c =
    sym (ap (option_map (λ t. Why.Coinbase t)) (stops-here null_fault c.args.block.now.txs c.loop-t.t c.tx-in-loop-t.result.now c.loop-t.t _
    c.loop-t.invariant c.tx-in-loop-t.ensures (unless-false _ _ (ap not (sym c.has_null.ensures ∙ c.if-has_null.true)))))

pub loop-t-preserved : goal.loop-t-preserved
loop-t-preserved c = goes-on null_fault c.args.block.now.txs c.loop-t.t c.tx-in-loop-t.result.now _ c.loop-t.invariant c.tx-in-loop-t.ensures
    (unless-true _ c.loop-t.t (ap not (sym c.has_null.ensures ∙ c.if-has_null.false)))
