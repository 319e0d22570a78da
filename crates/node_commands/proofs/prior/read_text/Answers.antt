use Rattle.std.proofs.Common.{Err, refl, ap, ◌∙◌}
use Rattle.node_commands.proofs.prior.read_text.Goals as goal

pub returns-in-Ok-clause-text : goal.returns-in-Ok-clause-text
returns-in-Ok-clause-text g c =
    record { text = c.in-Ok.text.items; told = c.in-Ok.ensures.text; is = (refl, c.in-Ok.ensures.within) }

pub returns-in-Err-Limit-clause-text : goal.returns-in-Err-Limit-clause-text
returns-in-Err-Limit-clause-text g c =
    let l = c.read_all.ensures.limit (c.in-Err-Limit.is ∙ ap (λ e. Err e) c.in-Err-Limit.field-0-is) in
    record { text = l.text; told = l.told_text; is = (refl, l.longer) }
