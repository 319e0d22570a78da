use Rattle.node_commands.proofs.RelayLemmas.{nodes-next}
use Rattle.node_commands.proofs.relayer.push_nodes.Goals as goal

pub loop-follower-preserved : goal.loop-follower-preserved
loop-follower-preserved g c =
    nodes-next c.args.world.now.followers c.loop-follower.follower c.node_line.result c.loop-follower.said.items c.push_line.new.out.items _
    c.node_line.ensures c.loop-follower.invariant c.in_ok-push_line.ensures.ok
