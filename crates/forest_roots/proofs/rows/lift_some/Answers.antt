use Rattle.std.proofs.Common.{◌≡◌, ◌+◌, ◌-◌, ◌*◌, ◌∙◌, length, ap, arith}
use Rattle.std.proofs.lemmas.Grind.{common_steps}
use Rattle.forest_roots.specs.Rows.{digests_over}
use Rattle.forest_roots.proofs.RowLaws.{lifted-some}
use Rattle.forest_roots.proofs.rows.lift_some.Goals as goal

pub returns-clause-lifted : goal.returns-clause-lifted
returns-clause-lifted g c = λ start lifted.
    let size : c.args.from + c.args.some - c.args.from ≡ c.args.some = omega arith in
    let twice : 2 * c.args.from + 2 * c.args.some - 2 * c.args.from ≡ 2 * c.args.some = omega arith in
    let is = c.digest_pairs.ensures.value ∙ ap (digests_over g.D.Digester.digest_of) c.put_pairs.ensures in
    let long : length c.digest_pairs.new.out ≡ c.args.some = grind (arith, common_steps, c.digest_pairs.auto.out, c.requires.within) in
    rw size (lifted-some g.D.Digester.digest_of start c.args.nodes.now c.digest_pairs.new.out c.args.from c.args.some c.requires.within
    (rw twice at is) long lifted)
