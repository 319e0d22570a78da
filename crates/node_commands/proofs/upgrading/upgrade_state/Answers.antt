use Rattle.std.proofs.Common.{refl, subst}
use Rattle.uo_base.proofs.PortLemmas.{told_text, Tells-told_text}
use Rattle.node_commands.specs.Starting.{IsStartOf}
use Rattle.node_commands.specs.Upgrading.{upgrading_state}
use Rattle.node_commands.proofs.RanLemmas.{ran-unbegun, ran-refusing, ran-begun, serves-once}
use Rattle.node_commands.proofs.upgrading.upgrade_state.Goals as goal

pub returns-in_err-node-clause-ran : goal.returns-in_err-node-clause-ran
returns-in_err-node-clause-ran g c = λ feed watch. ran-unbegun _ _ _ _ _ _ _ _ c.from_residual.ensures.0 refl

pub returns-in-Ok-clause-ran : goal.returns-in-Ok-clause-ran
returns-in-Ok-clause-ran g c =
    λ feed watch.
    let s = subst (IsStartOf _ _ _) c.in-Ok.is c.in_ok-node.ensures.begun in
    let m = upgrading_state g.D.Digester.digest_of c.args.limits in
    ran-begun m _ _ watch s.text (told_text watch) s.told (Tells-told_text watch) c.in-Ok.node s.is _ _
    (serves-once m c.in-Ok.node feed refl refl tt c.store_upgraded.ensures.untouched c.store_upgraded.result _ _ _ _ c.store_upgraded.ensures.status c.store_upgraded.ensures.said
    c.store_upgraded.ensures.sent
    c.store_upgraded.ensures.part_said c.store_upgraded.ensures.part_sent c.store_upgraded.ensures.order c.store_upgraded.ensures.read)

pub returns-in-Err-clause-ran : goal.returns-in-Err-clause-ran
returns-in-Err-clause-ran g c =
    λ feed watch.
    let s = subst (IsStartOf _ _ _) c.in-Err.is c.in_ok-node.ensures.begun in
    ran-refusing (upgrading_state g.D.Digester.digest_of c.args.limits) _ _ watch s.text (told_text watch) s.told (Tells-told_text watch) c.in-Err.bad
    s.is _ _ _ _ c.say.result c.say.ensures.status c.say.ensures.whole c.say.ensures.part refl
