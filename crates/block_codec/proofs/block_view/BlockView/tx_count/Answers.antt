use Rattle.std.proofs.Common.{rules}
use Rattle.block_codec.proofs.BlockViewLaws.{count_below}
use Rattle.block_codec.proofs.block_view.BlockView.tx_count.Goals as goal

pub overflow_cast-result : goal.overflow_cast-result
overflow_cast-result c = let below = count_below _ _ _ c.self.invariant.0 in search rules
