use Rattle.node_commands.proofs.StopLemmas.{pieces_are_parted}
use Rattle.node_commands.proofs.laws.pieces_are_parted.Goals as goal

pub returns : goal.returns
returns c = pieces_are_parted
