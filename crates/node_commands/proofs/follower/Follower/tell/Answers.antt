use Rattle.std.proofs.Common.{refl}
use Rattle.node_commands.specs.Machine.{told_of, next_follower}
use Rattle.node_commands.proofs.follower.Follower.tell.Goals as goal

pub returns-clause-verdict : goal.returns-clause-verdict
unfolding told_of
returns-clause-verdict g c = rw (← c.self.view_is) c.in_ok-verdict.ensures.verdict

pub returns-clause-next : goal.returns-clause-next
unfolding told_of next_follower
returns-clause-next g c = rw (← c.self.view_is, c.is_refused.ensures, c.in_ok-verdict.ensures.verdict, c.in_ok-verdict.ensures.next) refl
