use Rattle.std.proofs.Common.{false}
use Rattle.output_index.proofs.HeldLaws.{above-with_live}
use Rattle.forest_tests.proofs.tests.outputs.spend.Goals as goal

pub returns : goal.returns
returns g c = λ n a. rw c.spend.ensures (above-with_live n c.args.number false c.args.outputs.now a)
