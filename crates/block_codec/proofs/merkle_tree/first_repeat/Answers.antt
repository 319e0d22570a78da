use Rattle.std.proofs.Common.{arith}
use Rattle.block_codec.proofs.PairLaws.{no-repeat-more, repeat-here, no-repeat-end}
use Rattle.block_codec.proofs.merkle_tree.first_repeat.Goals as goal

pub loop-pair-preserved : goal.loop-pair-preserved
loop-pair-preserved c = no-repeat-more _ _ (rw c.if-is_repeat.false at c.is_repeat.ensures) c.loop-pair.invariant

pub returns-then-is_repeat-clause-first : goal.returns-then-is_repeat-clause-first
returns-then-is_repeat-clause-first c = repeat-here _ _ (rw c.if-is_repeat.true at c.is_repeat.ensures) c.loop-pair.invariant

pub returns-clause-none : goal.returns-clause-none
returns-clause-none c = no-repeat-end _ _ (omega arith) c.loop-pair.invariant
