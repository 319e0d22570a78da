use Rattle.std.proofs.Common.{ap, refl, ◌∙◌}
use Rattle.uo_base.proofs.PortLemmas.{told_text, Tells-told_text}
use Rattle.order_run.specs.Machine.{fresh_order}
use Rattle.node_commands.specs.Ordering.{hash_named, ordering}
use Rattle.node_commands.proofs.OrderLemmas.{order-serves}
use Rattle.node_commands.proofs.RanLemmas.{ran-begun}
use Rattle.node_commands.proofs.order.order.Goals as goal

pub returns-clause-ran : goal.returns-clause-ran
returns-clause-ran g c =
    λ prior watch.
    let tip = hash_named c.args.tip.now in
    ran-begun (ordering c.args.bytes c.args.net tip) _ prior watch (told_text prior) (told_text watch) (Tells-told_text prior) (Tells-told_text watch)
    tt refl _ _
    (order-serves c.args.net c.args.bytes tip _ (c.new-orderer.ensures ∙ ap (fresh_order c.args.net) c.hash_named.ensures) _ _ c.serve.ensures.served)
