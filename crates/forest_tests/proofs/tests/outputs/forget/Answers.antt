use Rattle.std.proofs.Common.{arith, rules}
use Rattle.std.proofs.lemmas.Grind.{common_steps}
use Rattle.output_index.proofs.HeldLaws.{above-without, spent_from}
use Rattle.forest_tests.proofs.tests.outputs.forget.Goals as goal

pub forget-requires : goal.forget-requires
forget-requires g c = spent_from c.args.number c.args.outputs.now (search rules) (grind (arith, common_steps))

pub returns : goal.returns
returns g c = λ n a. rw c.forget.ensures (above-without n c.args.number c.args.outputs.now a)
