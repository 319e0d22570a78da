use Rattle.std.proofs.Common.{subst}
use Rattle.std.specs.List.Sorted.{IsStrictlyIncreasing}
use Rattle.block_rules.proofs.Marks.{differ_none}
use Rattle.block_rules.proofs.double.all_differ.Goals as goal

pub returns : goal.returns
returns c = λ t. differ_none _ _ _ c.in_ok-marks.ensures c.sort_unstable.ensures.permutation
    (subst IsStrictlyIncreasing c.deref.ensures.value (c.rises.ensures t))
