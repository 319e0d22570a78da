use Rattle.std.proofs.Common.{length, ap, sym, ◌∙◌}
use Rattle.node_rules.proofs.ClaimedLeaves.{message-long}
use Rattle.node_rules.proofs.claims.MessageLeavesLeaves.count.Goals as goal

pub returns : goal.returns
returns c = sym (message-long c.self.inside.external.now c.self.inside.message.now c.self.invariant) ∙ ap length c.self.view_is
