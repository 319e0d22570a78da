use Rattle.std.proofs.Common.{arith}
use Rattle.live_forest.proofs.Seams.{seam_from, seam_value}
use Rattle.live_forest.proofs.store.seam.Goals as goal

pub overflow_add-result : goal.overflow_add-result
overflow_add-result c = omega (arith, seam_from c.args.row c.args.off, c.requires.small)

pub overflow_add-result-3 : goal.overflow_add-result-3
overflow_add-result-3 c = omega (arith, seam_value c.args.row c.args.off c.requires.small, c.requires.small)

pub overflow_sub-result-2 : goal.overflow_sub-result-2
overflow_sub-result-2 c = omega (arith, seam_value c.args.row c.args.off c.requires.small)

pub returns : goal.returns
returns c = omega (arith, seam_value c.args.row c.args.off c.requires.small)
