use Rattle.std.proofs.Common.{refl}
use Rattle.node_commands.specs.Auditor.{judged_of, next_auditor}
use Rattle.node_commands.proofs.AuditLemmas.{audited-is}
use Rattle.node_commands.proofs.auditor.Auditor.tell.Goals as goal

pub returns-clause-line : goal.returns-clause-line
returns-clause-line g c = rw (← c.self.view_is) (audited-is _ _ _ _ c.in_ok-line.ensures.verdict c.in_ok-line.ensures.clash)

pub returns-clause-next : goal.returns-clause-next
unfolding judged_of next_auditor
returns-clause-next g c = rw (← c.self.view_is, c.refuses.ensures, c.in_ok-line.ensures.verdict, c.in_ok-line.ensures.next) refl
