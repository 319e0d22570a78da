use Rattle.std.proofs.Common.{refl}
use Rattle.feed_upgrade.specs.Upgrader.{next_upgrader}
use Rattle.feed_upgrade.proofs.upgrader.Upgrader.tell.Goals as goal

pub returns-clause-next : goal.returns-clause-next
unfolding next_upgrader
returns-clause-next g c = rw (← c.self.view_is, c.in_ok-step.ensures.next, c.requires.old) refl
