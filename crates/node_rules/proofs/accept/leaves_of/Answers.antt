use Rattle.std.proofs.Common.{length, ap, arith}
use Rattle.node_rules.proofs.ClaimedLeaves.{message-long}
use Rattle.node_rules.proofs.accept.leaves_of.Goals as goal

pub returns-clause-steps : goal.returns-clause-steps
returns-clause-steps g c =
    omega (arith, message-long c.args.external.now c.args.message.now c.requires, ap length c.new-claims.ensures, c.leaf_digests.ensures.most)
