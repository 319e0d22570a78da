use Rattle.std.proofs.Common.{ap, subst, refl, ◌∙◌}
use Rattle.uo_base.proofs.PortLemmas.{told_text, Tells-told_text}
use Rattle.compact_node.specs.Node.{fresh_node}
use Rattle.node_commands.specs.Follow.{fresh_for}
use Rattle.node_commands.specs.Following.{fresh_start, following_afresh}
use Rattle.node_commands.specs.Watching.{IsListOf}
use Rattle.node_commands.proofs.RanLemmas.{ran-unbegun, ran-refusing, ran-begun}
use Rattle.node_commands.proofs.follow.follow_afresh.Goals as goal

pub returns-in_err-watch-clause-ran : goal.returns-in_err-watch-clause-ran
returns-in_err-watch-clause-ran g c = λ prior. ran-unbegun _ _ _ _ _ _ _ _ c.from_residual.ensures.0 refl

pub returns-in_err-node-in-Ok-clause-ran : goal.returns-in_err-node-in-Ok-clause-ran
returns-in_err-node-in-Ok-clause-ran g c = λ prior. ran-unbegun _ _ _ _ _ _ _ _ c.from_residual-in_err-node-in-Ok.ensures.0 refl

pub returns-in_ok-node-in-Ok-clause-ran : goal.returns-in_ok-node-in-Ok-clause-ran
returns-in_ok-node-in-Ok-clause-ran g c =
    λ prior.
    let l = subst (IsListOf _ _ _) c.in-Ok.is c.in_ok-watch.ensures.list in
    ran-begun (following_afresh g.D.Digester.digest_of c.args.limits c.args.net c.args.named) _ prior _ (told_text prior) l.text
    (Tells-told_text prior) l.told (fresh_for c.args.limits c.args.net c.in-Ok.watch)
    (ap (fresh_start c.args.limits c.args.net) l.is) _ _ (rw (c.in_ok-node-in-Ok.ensures ∙ ap (fresh_node c.args.net c.args.limits) c.watched.ensures) at c.follow.ensures.served)

pub returns-in-Err-clause-ran : goal.returns-in-Err-clause-ran
returns-in-Err-clause-ran g c =
    λ prior.
    let l = subst (IsListOf _ _ _) c.in-Err.is c.in_ok-watch.ensures.list in
    ran-refusing (following_afresh g.D.Digester.digest_of c.args.limits c.args.net c.args.named) _ prior _ (told_text prior) l.text
    (Tells-told_text prior) l.told c.in-Err.bad
    (ap (fresh_start c.args.limits c.args.net) l.is) _ _ _ _ c.say.result c.say.ensures.status c.say.ensures.whole c.say.ensures.part refl
