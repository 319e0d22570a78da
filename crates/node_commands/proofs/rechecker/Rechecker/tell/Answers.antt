use Rattle.std.proofs.Common.{refl}
use Rattle.node_commands.specs.Rechecking.{next_rechecker}
use Rattle.node_commands.proofs.RecheckLemmas.{shown-is}
use Rattle.node_commands.proofs.rechecker.Rechecker.tell.Goals as goal

pub returns-clause-line : goal.returns-clause-line
returns-clause-line g c = rw (← c.self.view_is) (shown-is _ _ _ _ c.in_ok-line.ensures.verdict c.in_ok-line.ensures.clash)

pub returns-clause-next : goal.returns-clause-next
unfolding next_rechecker
returns-clause-next g c = rw (← c.self.view_is, c.in_ok-line.ensures.next) refl
