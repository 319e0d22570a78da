use Rattle.std.proofs.Common.{ap, ◌∙◌}
use Rattle.feed_run.specs.Status.{is_stop}
use Rattle.node_commands.proofs.RecheckLemmas.{end-goes}
use Rattle.node_commands.proofs.recheck.tell_judged.Goals as goal

pub returns-clause-goes_on : goal.returns-clause-goes_on
returns-clause-goes_on g c = ap is_stop c.in_ok-status.ensures.status ∙ end-goes g.D.Digester.digest_of c.args.rechecker.now
