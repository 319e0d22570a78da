use Rattle.std.proofs.Common.{arith}
use Rattle.node_commands.proofs.upgrading.store_upgraded.Goals as goal

pub overflow_add-levels : goal.overflow_add-levels
overflow_add-levels g c = omega (arith, c.kept_levels-levels.ensures, c.chain-chain.ensures.node.kept)
