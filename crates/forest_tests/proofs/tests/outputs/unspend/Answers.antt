use Rattle.std.proofs.Common.{true, arith, rules}
use Rattle.std.proofs.lemmas.Grind.{common_steps}
use Rattle.output_index.proofs.HeldLaws.{above-with_live, spent_from}
use Rattle.forest_tests.proofs.tests.outputs.unspend.Goals as goal

pub unspend-requires : goal.unspend-requires
unspend-requires g c = spent_from c.args.number c.args.outputs.now (search rules) (grind (arith, common_steps))

pub returns : goal.returns
returns g c = λ n a. rw c.unspend.ensures (above-with_live n c.args.number true c.args.outputs.now a)
