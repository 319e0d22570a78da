use Rattle.std.proofs.Common.{◌≡◌, ◌/◌, length, take, ap, ◌∙◌, arith}
use Rattle.forest_roots.proofs.RowLaws.{lifted-end}
use Rattle.forest_roots.proofs.rows.lift.Goals as goal

pub returns-clause-lifted : goal.returns-clause-lifted
returns-clause-lifted g c =
    let r = c.pairs.invariant in
    let all : length c.args.nodes.now / 2 ≡ c.pairs.pair = omega (arith, r.within, r.all, c.pairs-test.false) in
    ap (λ k. take k c.pairs.nodes) all
    ∙ lifted-end g.D.Digester.digest_of c.args.nodes.now c.pairs.nodes c.pairs.pair (omega (arith, all)) r.lifted
