use Rattle.proof_shape.proofs.Untargeted.{untargeted, surveyed}
use Rattle.proof_shape.proofs.survey.Survey.none.Goals as goal

pub invariant_of-result : goal.invariant_of-result
invariant_of-result c =
    rw (c.new.ensures.items, c.new-2.ensures.items, c.new-3.ensures.items, c.new-4.ensures.items, c.new-5.ensures.items, c.new-6.ensures.items)
    (untargeted c.args.n c.requires, surveyed c.args.n)
