use Rattle.std.proofs.Common.{sym, ap, ◌∙◌, ◌∷◌, [], length}
use Rattle.std.proofs.lemmas.Result.{IfOk-weaker}
use Rattle.ticket_check.proofs.ClashLaws.{answer_so, exact_so}
use Rattle.ticket_check.proofs.clashing.ticket_clash.Goals as goal

pub returns-clause-answer : goal.returns-clause-answer
returns-clause-answer g c =
    IfOk-weaker c.find_in.result _ _
    (λ clash w.
    answer_so g.D.Digester.digest_of c.args.bridge.now.entries c.args.bridge.now.held c.args.bridge.now.chain.tip c.args.ticket.now c.requires
    c.leaves-n.result c.target.result (c.leaves-n.ensures.is ∙ ap length c.forest.ensures.entries) c.target.ensures
    c.in-Some.targets c.forest-2.result.now.entries c.outputs.result.now c.deref.result.now c.deref-2.result.now
    (sym c.in-Some.is ∙ c.in_ok-targets.ensures) c.forest-2.ensures.entries c.outputs.ensures
    (c.deref.ensures.value ∙ (c.in_ok-leaves.ensures ∙ ap (λ l. l ∷ []) c.leaf.ensures.is))
    (c.deref-2.ensures.value ∙ (c.in_ok-hashes.ensures ∙ c.hashes.ensures))
    clash w)
    c.find_in.ensures.answer

pub returns-clause-exact : goal.returns-clause-exact
returns-clause-exact g c =
    IfOk-weaker c.find_in.result _ _
    (λ clash w.
    exact_so g.D.Digester.digest_of c.args.bridge.now.entries c.args.bridge.now.held c.args.bridge.now.chain.tip c.args.ticket.now c.requires
    c.leaves-n.result c.target.result (c.leaves-n.ensures.is ∙ ap length c.forest.ensures.entries) c.target.ensures
    c.in-Some.targets c.forest-2.result.now.entries c.outputs.result.now c.deref.result.now c.deref-2.result.now
    (sym c.in-Some.is ∙ c.in_ok-targets.ensures) c.forest-2.ensures.entries c.outputs.ensures
    (c.deref.ensures.value ∙ (c.in_ok-leaves.ensures ∙ ap (λ l. l ∷ []) c.leaf.ensures.is))
    (c.deref-2.ensures.value ∙ (c.in_ok-hashes.ensures ∙ c.hashes.ensures))
    clash w)
    c.find_in.ensures.exact
