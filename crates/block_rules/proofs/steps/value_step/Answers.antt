use Rattle.std.proofs.Common.{sym, ap, ◌∙◌}
use Rattle.std.specs.Prelude.{option_map}
use Rattle.block_rules.specs.declared.refusal.Refusal.TheVariants as Why
use Rattle.block_rules.proofs.Numbered.{value_at, stops-here, goes-on, unless-true, unless-false}
use Rattle.block_rules.proofs.steps.value_step.Goals as goal

pub returns-then-not-has_value : goal.returns-then-not-has_value
returns-then-not-has_value c =
    sym (ap (option_map (λ t. Why.Value t)) (stops-here value_at c.args.block.now.txs c.loop-t.t c.tx.result.now c.loop-t.t _ c.loop-t.invariant
    c.tx.ensures (unless-false _ _ (sym c.has_value.ensures ∙ c.if-not-has_value.true))))

pub loop-t-preserved : goal.loop-t-preserved
loop-t-preserved c = goes-on value_at c.args.block.now.txs c.loop-t.t c.tx.result.now _ c.loop-t.invariant c.tx.ensures
    (unless-true _ c.loop-t.t (sym c.has_value.ensures ∙ c.if-not-has_value.false))
