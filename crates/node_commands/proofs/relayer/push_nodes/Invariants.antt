use Rattle.std.proofs.Common.{◌≡◌, ◌++◌}
use Rattle.std.specs.Prelude.{drop}
use Rattle.node_commands.specs.Relayer.{node_lines}
use Rattle.node_commands.proofs.relayer.push_nodes.Given as goal

abbrev pub invariant-loop-follower : goal.invariant-loop-follower
invariant-loop-follower g l = let followers = l.fn.world.followers in
    l.said.items ++ node_lines l.follower (drop l.follower followers) ≡ l.fn.said.items ++ node_lines 0 followers
