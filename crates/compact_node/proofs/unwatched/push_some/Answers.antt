use Rattle.std.proofs.Common.{arith}
use Rattle.compact_node.proofs.unwatched.push_some.Goals as goal

pub overflow_add-end : goal.overflow_add-end
overflow_add-end g c = let e = c.min-count.ensures in omega (arith, e, c.new_count.ensures, c.requires.left, c.ranges.from.fits)
