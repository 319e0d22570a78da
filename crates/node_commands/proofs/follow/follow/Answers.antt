use Rattle.node_commands.proofs.FollowLemmas.{follow-serves}
use Rattle.node_commands.proofs.follow.follow.Goals as goal

pub returns-clause-served : goal.returns-clause-served
returns-clause-served g c = follow-serves _ c.args.node _ _ _ c.new-follower.ensures c.net-net.ensures c.requires.told _ _ c.serve.ensures.served
