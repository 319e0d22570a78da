use Rattle.std.proofs.Common.{subst}
use Rattle.uo_base.proofs.PortLemmas.{told_text, Tells-told_text}
use Rattle.node_commands.specs.Starting.{IsStartOf}
use Rattle.node_commands.specs.Checking.{checking}
use Rattle.node_commands.proofs.RanLemmas.{ran-unbegun, ran-refusing, ran-begun}
use Rattle.node_commands.proofs.check.check.Goals as goal

pub returns-in_err-node-clause-ran : goal.returns-in_err-node-clause-ran
returns-in_err-node-clause-ran g c = λ watch out. ran-unbegun _ _ _ _ _ _ _ _ c.from_residual.ensures.0 tt

pub returns-in-Ok-clause-ran : goal.returns-in-Ok-clause-ran
returns-in-Ok-clause-ran g c =
    λ watch out.
    let s = subst (IsStartOf _ _ _) c.in-Ok.is c.in_ok-node.ensures.begun in
    ran-begun (checking g.D.Digester.digest_of c.args.limits) _ _ watch s.text (told_text watch) s.told (Tells-told_text watch) c.in-Ok.node s.is _ _
    (c.check_read.ensures.served out)

pub returns-in-Err-clause-ran : goal.returns-in-Err-clause-ran
returns-in-Err-clause-ran g c =
    λ watch out.
    let s = subst (IsStartOf _ _ _) c.in-Err.is c.in_ok-node.ensures.begun in
    ran-refusing (checking g.D.Digester.digest_of c.args.limits) _ _ watch s.text (told_text watch) s.told (Tells-told_text watch) c.in-Err.bad s.is _
    _ _ _ c.say.result c.say.ensures.status c.say.ensures.whole c.say.ensures.part tt
