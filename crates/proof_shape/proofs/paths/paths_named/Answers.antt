use Rattle.std.proofs.Common.{arith}
use Rattle.proof_shape.proofs.Faulty.{none_short, answered}
use Rattle.proof_shape.proofs.paths.paths_named.Goals as goal

pub returns-then-len-numbers-clause-found : goal.returns-then-len-numbers-clause-found
returns-then-len-numbers-clause-found c =
    none_short c.args.naming c.args.n (omega (arith, c.requires)) c.args.numbers.now c.in_ok-places.places.items c.in_ok-places.ensures
    (omega (arith, c.if-len-numbers.true, c.len.ensures))

pub returns-clause-found : goal.returns-clause-found
returns-clause-found c =
    answered c.args.naming c.args.n (omega (arith, c.requires)) c.args.numbers.now c.in_ok-places.places.items c.in_ok-places.ensures
    (omega (arith, c.if-len-numbers.false, c.len.ensures))
    c.paths_over.result c.paths_over.ensures.found c.paths_over.ensures.paths
