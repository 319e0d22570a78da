use Rattle.node_commands.proofs.FrontLemmas.{answers-begin-with-events}
use Rattle.node_commands.proofs.laws.answers_begin_with_events.Goals as goal

pub returns : goal.returns
returns c = answers-begin-with-events
