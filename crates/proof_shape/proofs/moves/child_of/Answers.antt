use Rattle.proof_shape.proofs.Gone.{child_within}
use Rattle.proof_shape.proofs.moves.child_of.Goals as goal

pub returns-else-alone-clause-within : goal.returns-else-alone-clause-within
returns-else-alone-clause-within c = rw c.child.ensures (child_within c.args.n c.args.goes.row c.args.goes.off c.args.side c.requires.within
    c.requires.row c.requires.side)
