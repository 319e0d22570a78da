use Rattle.output_index.proofs.HeldLaws.{above-without_last}
use Rattle.forest_tests.proofs.tests.outputs.take_back.Goals as goal

pub returns : goal.returns
returns g c = rw c.take_back.ensures (above-without_last c.args.number c.args.outputs.now c.requires)
