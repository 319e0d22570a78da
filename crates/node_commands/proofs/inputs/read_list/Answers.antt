use Rattle.std.proofs.Common.{Err, ap, ◌∙◌}
use Rattle.node_commands.proofs.WatchLemmas.{list-none, list-long, lists-read}
use Rattle.node_commands.proofs.inputs.read_list.Goals as goal

pub returns-then-not-named-clause-list : goal.returns-then-not-named-clause-list
returns-then-not-named-clause-list g c = list-none _ _ _ c.if-not-named.true

pub returns-in-Ok-clause-list : goal.returns-in-Ok-clause-list
returns-in-Ok-clause-list g c = lists-read _ _ _ _ c.if-not-named.false c.in-Ok.ensures.text c.in-Ok.ensures.within c.list_in.result
    (rw c.deref.ensures.value at c.list_in.ensures.list)

pub returns-in-Err-Limit-clause-list : goal.returns-in-Err-Limit-clause-list
returns-in-Err-Limit-clause-list g c =
    list-long _ _ _ c.if-not-named.false (c.read_all.ensures.limit (c.in-Err-Limit.is ∙ ap (λ e. Err e) c.in-Err-Limit.field-0-is))
