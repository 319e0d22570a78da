use Rattle.std.proofs.Common.{◌∙◌}
use Rattle.std.proofs.lemmas.List.Sorted.{searched}
use Rattle.proof_shape.proofs.Ordered.{found_is}
use Rattle.proof_shape.proofs.order.contains.Goals as goal

pub returns : goal.returns
returns c =
    c.is_ok.ensures.value ∙ found_is c.args.sorted.now c.args.number c.binary_search.result
    (searched c.args.sorted.now c.args.number c.binary_search.result c.binary_search.ensures.position (λ i j le lt. c.requires i j 0 le lt))
