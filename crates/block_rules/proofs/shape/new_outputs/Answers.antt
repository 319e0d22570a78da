use Rattle.std.proofs.Common.{rules, ◌∙◌}
use Rattle.std.specs.Option.{is_some}
use Rattle.std.proofs.lemmas.Fn.{filter_same}
use Rattle.block_rules.proofs.Spending.{new_left}
use Rattle.block_rules.proofs.shape.new_outputs.Goals as goal

pub returns : goal.returns
returns c = filter_same _ is_some _ (λ x b f' k. search rules) _ _ c.retain.ensures.filtered
    ∙ new_left c.args.height c.args.outputs.items c.if-height-eq0.false
